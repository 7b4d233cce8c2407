-- A search among the first n cells.
use mathlib.Core.Path.{◌∙◌}
use lib.Dec.{ltb}
use lib.ListN.{take}
use borrow.Author.Rules.{rules}
use borrow.Author.Tests.{tests}
use Rattle.std.proofs.lemmas.Iterator.{YieldsList-from_slice}
use Rattle.std.proofs.lemmas.Iterator.Search.{any_from_yields_List}
use Rattle.rounds_tables.proofs.Comparing.{any_above_is}
use Rattle.rounds_tables.proofs.cells.first_alarm_waits.Goals as goal

pub returns : goal.returns
returns c = any_from_yields_List (λ w. ltb 0 w) _ _ _ c.any.ensures.ran (YieldsList-from_slice (take c.args.n c.args.table.now) c.iter.ensures.rest) (λ x b q k. search (rules, tests)) ∙ any_above_is (take c.args.n c.args.table.now)
