-- A shift of 1 is a power of 4.
use mathlib.Core.Path.{◌∙◌}
use Rattle.plan.proofs.Widths.{digit_shift}
use native.Mathlib.Nat.{one-mul}
use native.Mathlib.Omega.{arith}
use Rattle.rules_fill.proofs.rows.digit_bit.Goals as goal

pub returns : goal.returns
returns c = digit_shift 1 c.args.j (omega arith) c.requires ∙ one-mul _
