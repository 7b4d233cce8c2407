-- `plan::label::digit` meets its contract.
use mathlib.Core.Path.{ap, ◌∙◌}
use Prim.Native.Nat.{ℕ, ◌*◌, ◌/◌, ◌%◌, ◌^◌}
use lib.Bits.{and_mask}
use Rattle.plan.specs.Label.{digit}
use Rattle.plan.proofs.LabelLaws.{four}
use Rattle.plan.proofs.label.digit.Goals as goal

pub returns : goal.returns
unfolding digit
returns c = and_mask (c.args.label / 2 ^ (2 * c.args.j)) 2 ∙ ap (λ (u : ℕ). c.args.label / u % 4) (four c.args.j)
