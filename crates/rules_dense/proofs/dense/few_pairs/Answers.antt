-- A product of two that are few.
use native.Mathlib.Nat.{mul-le-mul, min-le_right}
use Prim.Native.Nat.{◌≤◌}
use native.Mathlib.Omega.{arith}
use Rattle.rules_dense.proofs.dense.few_pairs.Goals as goal

pub overflow_mul-result : goal.overflow_mul-result
overflow_mul-result c = let few_a : c.min.result ≤ 4096 = omega (arith, c.min.ensures, min-le_right c.args.a 4096) in
    let few_b : c.min-2.result ≤ 4096 = omega (arith, c.min-2.ensures, min-le_right c.args.b 4096) in
    omega (arith, mul-le-mul few_a few_b)

pub returns : goal.returns
returns c = let few_a : c.min.result ≤ 4096 = omega (arith, c.min.ensures, min-le_right c.args.a 4096) in
    let few_b : c.min-2.result ≤ 4096 = omega (arith, c.min-2.ensures, min-le_right c.args.b 4096) in
    omega (arith, mul-le-mul few_a few_b)
