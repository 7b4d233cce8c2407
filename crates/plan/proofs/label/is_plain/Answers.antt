-- `plan::label::is_plain` meets its contract.
use mathlib.Core.Path.{ap, ◌∙◌}
use Prim.Native.Nat.{ℕ}
use lib.Dec.{eqb}
use Rattle.plan.specs.Label.{plain}
use Rattle.plan.proofs.Marked.{mark_test}
use Rattle.plan.proofs.label.is_plain.Goals as goal

pub returns : goal.returns
returns c = ap (λ (m : ℕ). eqb m 1) (c.requires.0.mark c.args.label c.requires.1) ∙ mark_test (plain 4 c.args.label)
