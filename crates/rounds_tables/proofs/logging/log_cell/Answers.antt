-- A raised cell has one entry, and any other has none.
use mathlib.Core.Path.{refl}
use native.Mathlib.Omega.{arith}
use Rattle.rounds_tables.proofs.LogLaws.{grew_raised, grew_stay}
use Rattle.rounds_tables.proofs.logging.log_cell.Goals as goal

pub returns-then-first-c : goal.returns-then-first-c
returns-then-first-c c = record { log_grew = grew_raised _ _ _ _ _ _ _ _ (omega arith) (omega (arith, c.from.ensures)) c.push.ensures.by_index c.push.ensures.upper_bound; same_length = c.push.ensures.same_length }

pub returns : goal.returns
returns c = record { log_grew = grew_stay _ _ _ _ _ (omega arith) (omega arith); same_length = refl }
