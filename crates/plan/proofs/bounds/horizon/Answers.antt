-- `plan::bounds::horizon` meets its contract: less than 256 times less than 65,536 is less than 2^24.
use mathlib.Core.Path.{ap₂}
use Prim.Native.Nat.{ℕ, ◌*◌, ◌<◌}
use native.Mathlib.Nat.{mul-le-mul}
use native.Mathlib.Omega.{arith}
use Rattle.plan.specs.Layout.{plan_of}
use Rattle.plan.proofs.bounds.horizon.Goals as goal

product : (a b : ℕ) → a < 256 → b < 65536 → a * b < 16777216
product a b h k = omega (arith, mul-le-mul {n₁ = a} {m₁ = b} {n₂ = 255} {m₂ = 65535} (omega arith) (omega arith))

pub overflow_mul-result : goal.overflow_mul-result
overflow_mul-result c = omega (arith, product c.points.result c.largest.result (omega arith) (omega arith))

pub returns : goal.returns
unfolding plan_of
returns c = (ap₂ ◌*◌ c.points.ensures.0 c.largest.ensures.0, product _ _ c.points.ensures.1 c.largest.ensures.1)
