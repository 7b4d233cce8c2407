-- Where the weight is no more than the wait the difference is computed, and elsewhere both sides are 0.
use mathlib.Core.Path.{refl}
use native.Mathlib.Omega.{arith}
use Rattle.rules_fill.specs.Shapes.{weighed}
use Rattle.rules_fill.proofs.shapes.weighed.Goals as goal

pub returns-then-up-wait : goal.returns-then-up-wait
unfolding weighed
returns-then-up-wait c = refl

pub returns-else-up-wait : goal.returns-else-up-wait
unfolding weighed
returns-else-up-wait c = omega arith
