-- A shift of 3 is its product with a power of 4.
use Rattle.plan.proofs.Widths.{digit_shift}
use Rattle.rules_fill.specs.Shapes.{digit_mask}
use native.Mathlib.Omega.{arith}
use Rattle.rules_fill.proofs.rows.digit_mask.Goals as goal

pub returns : goal.returns
unfolding digit_mask
returns c = digit_shift 3 c.args.j (omega arith) c.requires
