use Rattle.std.proofs.Common.{◌∙◌, rules, take}
use borrow.Author.Tests.{tests}
use Rattle.std.proofs.lemmas.Iterator.{YieldsList-from_slice}
use Rattle.std.proofs.lemmas.Iterator.Search.{all_from_yields_List}
use Rattle.page.proofs.PageLaws.{all_fit}
use Rattle.page.proofs.printing.waits_fit.Goals as goal

pub returns : goal.returns
returns c =
    all_from_yields_List _ _ _ _ c.all.ensures.ran (YieldsList-from_slice (take c.args.end c.args.table.now) cc) (λ x b q k. search (rules, tests))
    ∙ all_fit c.args.table.now c.args.end c.requires
