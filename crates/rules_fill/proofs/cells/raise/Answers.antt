-- A cell below the wait is stored anew, and one that is no less stays.
use mathlib.Core.Path.{refl}
use native.Mathlib.Omega.{arith}
use lib.ListN.{length-set}
use Rattle.rules.proofs.Raising.{raise_up, raise_none}
use Rattle.rules_fill.proofs.cells.raise.Goals as goal

pub returns-then-from-wait : goal.returns-then-from-wait
returns-then-from-wait c = record { part_value = raise_up _ _ _ (omega arith); same_length = simp length-set }

pub returns-else-from-wait : goal.returns-else-from-wait
returns-else-from-wait c = record { part_value = raise_none _ _ _ (omega arith); same_length = refl }
