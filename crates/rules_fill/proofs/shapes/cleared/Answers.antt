-- The bits of the mask that a place has are no more than the place.
use mathlib.Core.Path.{refl}
use lib.Bits.{and_le_l}
use Rattle.rules_fill.specs.Shapes.{cleared}
use Rattle.rules_fill.proofs.shapes.cleared.Goals as goal

pub overflow_sub-result : goal.overflow_sub-result
overflow_sub-result c = and_le_l c.args.place c.args.mask

pub returns : goal.returns
unfolding cleared
returns c = refl
