-- There are at least one and at most 256 labels.
use mathlib.Core.Path.{refl}
use native.Mathlib.Omega.{arith}
use Rattle.plan.specs.Layout.{plan_of}
use Rattle.plan.proofs.LabelLaws.{four_pos}
use Rattle.plan.proofs.Ranges.{accepted_bounded}
use Rattle.rules_fill.specs.Shapes.{label_mask}
use Rattle.rules_fill.proofs.rows.label_mask.Goals as goal

pub labels-requires : goal.labels-requires
labels-requires c = (accepted_bounded c.args.plan.now c.requires).propositions_in

pub overflow_sub-result : goal.overflow_sub-result
overflow_sub-result c = omega (arith, four_pos (plan_of c.args.plan.now).propositions)

pub returns : goal.returns
unfolding label_mask
returns c = rw c.labels.ensures.0 (refl, omega (arith, c.labels.ensures.1, four_pos (plan_of c.args.plan.now).propositions))
