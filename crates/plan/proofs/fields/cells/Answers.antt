-- `plan::fields::cells` meets its contract.
use mathlib.Core.Path.{ap₂}
use Prim.Native.Nat.{ℕ, ◌*◌}
use native.Mathlib.Nat.{mul-le-mul}
use native.Mathlib.Omega.{arith}
use Rattle.plan.proofs.fields.cells.Goals as goal

pub overflow_mul-result : goal.overflow_mul-result
overflow_mul-result c = record { fits = omega (arith, mul-le-mul {n₁ = c.points.result} {n₂ = 255} (omega arith) c.width.ensures.1) }

pub returns : goal.returns
returns c = ap₂ (λ (n w : ℕ). n * w) c.points.ensures.0 c.width.ensures.0
