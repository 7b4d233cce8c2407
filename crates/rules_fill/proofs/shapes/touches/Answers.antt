-- The test is the definition's.
use mathlib.Core.Path.{refl}
use Rattle.rules_fill.specs.Shapes.{touches}
use Rattle.rules_fill.proofs.shapes.touches.Goals as goal

pub returns : goal.returns
unfolding touches
returns c = refl
