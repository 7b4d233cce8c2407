-- The cells copied are laid over the target.
use mathlib.Core.Path.{ap}
use mathlib.Core.List.{List, ◌++◌}
use Prim.Native.Nat.{ℕ}
use lib.ListN.{drop}
use Rattle.rules_fill.specs.Parts.{laid_over}
use Rattle.rules_fill.proofs.cells.copy_cells.Goals as goal

pub returns-clause-target_value : goal.returns-clause-target_value
unfolding laid_over
returns-clause-target_value c = ap (λ (A : List ℕ). A ++ drop c.args.n c.args.target.now) c.copy_elements.ensures
