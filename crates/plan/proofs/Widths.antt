-- Shifts that the code makes are powers, and the bounds of those. A number of the code comes with the number of the plan that it equals.
use mathlib.Core.Path.{◌≡◌, ap, ◌∙◌}
use Prim.Native.Nat.{ℕ, ◌+◌, ◌*◌, ◌%◌, ◌^◌, ◌≤◌, ◌<◌}
use native.Mathlib.Nat.{one-mul, mod-eq_of_lt, pow-le-pow_right, mul-le-mul}
use native.Mathlib.Omega.{arith}
use lib.Pow.{pow-lt, pow-add, pow_mono}
use Rattle.plan.proofs.LabelLaws.{four}

-- a one shifted by m places in a 64-bit number
pub shift : (m n : ℕ) → n < 64 → m ≡ n → 1 * 2 ^ m % 18446744073709551616 ≡ 2 ^ n
shift m n h e = rw (e, one-mul) (mod-eq_of_lt (pow-lt {j = 64} h))

pub labels_small : (p : ℕ) → p ≤ 4 → 4 ^ p ≤ 256
labels_small p h = pow-le-pow_right {n = 4} (omega arith) h

pub labels_shift : (q p : ℕ) → q ≡ p → p ≤ 4 → (1 * 2 ^ (2 * q) % 18446744073709551616 ≡ 4 ^ p) × (1 * 2 ^ (2 * q) % 18446744073709551616 ≤ 256)
labels_shift q p e h = let s = shift (2 * q) (2 * p) (omega arith) (omega arith) ∙ four p in (s, rw s (labels_small p h))

-- 2 ^ k * 4 ^ p is one shift
pub width_small : (k p : ℕ) → k ≤ 4 → p ≤ 4 → 2 ^ k * 4 ^ p ≤ 4096
width_small k p hk hp = mul-le-mul (pow-le-pow_right {n = 2} (omega arith) hk) (labels_small p hp)

pub width_shift : (j q k p : ℕ) → j ≡ k → q ≡ p → k ≤ 4 → p ≤ 4 → (1 * 2 ^ (j + 2 * q) % 18446744073709551616 ≡ 2 ^ k * 4 ^ p) × (1 * 2 ^ (j + 2 * q) % 18446744073709551616 ≤ 4096)
width_shift j q k p d e hk hp =
    let s = shift (j + 2 * q) (k + 2 * p) (omega arith) (omega arith) ∙ pow-add 2 k (2 * p) ∙ ap (λ (x : ℕ). 2 ^ k * x) (four p) in
    (s, rw s (width_small k p hk hp))

-- a digit shifted to its place
pub digit_shift : (d j : ℕ) → d < 4 → j < 4 → d * 2 ^ (2 * j) % 18446744073709551616 ≡ d * 4 ^ j
digit_shift d j hd hj =
    mod-eq_of_lt (omega (arith, mul-le-mul {n₁ = d} {n₂ = 4} (omega arith) (pow_mono {i = 2 * j} {j = 6} (omega arith))))
    ∙ ap (λ (x : ℕ). d * x) (four j)
