-- Two tests of the numbers below n, and how many pass them.
use mathlib.Core.Path.{◌≡◌, refl}
use mathlib.Core.Bool.{Bool, true, false, cond}
use Prim.Native.Nat.{ℕ, zero, suc, ◌+◌, ◌≤◌, ◌<◌}
use native.Mathlib.Nat.{le_refl}
use native.Mathlib.Decide.{ℕ_discrete}
use native.Mathlib.Omega.{arith}
use lib.Dec.{T as Is}
use Rattle.plan.specs.Counting.{count}

one_le : (a b : Bool) → (Is a → Is b) → cond a 1 0 ≤ cond b 1 0
one_le true true h = le_refl _
one_le true false h = absurd (h tt)
one_le false b h = omega arith

one_lt : (a b : Bool) → (Is a → ⊥) → Is b → cond a 1 0 < cond b 1 0
one_lt true b h t = absurd (h tt)
one_lt false true h t = omega arith
one_lt false false h t = absurd t

pub count_few : (f : ℕ → Bool) (n : ℕ) → count f n ≤ n
unfolding count
count_few f zero = omega arith
count_few f (suc n) = omega (arith, count_few f n, one_le (f n) true (λ t. tt))

pub count_same : (f g : ℕ → Bool) (n : ℕ) → ((i : ℕ) → i < n → f i ≡ g i) → count f n ≡ count g n
unfolding count
count_same f g zero h = refl
count_same f g (suc n) h = rw (count_same f g n (λ i k. h i (omega arith)), h n (omega arith))

pub count_le : (f g : ℕ → Bool) (n : ℕ) → ((i : ℕ) → i < n → Is (f i) → Is (g i)) → count f n ≤ count g n
unfolding count
count_le f g zero h = omega arith
count_le f g (suc n) h = omega (arith, count_le f g n (λ i k. h i (omega arith)), one_le (f n) (g n) (h n (omega arith)))

-- fewer where some number passes only the second
pub count_lt : (f g : ℕ → Bool) (n : ℕ) → ((i : ℕ) → i < n → Is (f i) → Is (g i)) → (y : ℕ) → y < n → (Is (f y) → ⊥) → Is (g y) → count f n < count g n
unfolding count
count_lt f g zero h y k a b = absurd (omega arith)
count_lt f g (suc n) h y k a b = go (λ l. count_lt f g n (λ i k. h i (omega arith)) y l a b) (ℕ_discrete y n)
  where
    go : (y < n → count f n < count g n) → Dec (y ≡ n) → count f n + cond (f n) 1 0 < count g n + cond (g n) 1 0
    go c (yes e) = omega (arith, one_lt (f n) (g n) (rw e at a) (rw e at b), count_le f g n (λ i k. h i (omega arith)))
    go c (no e) = omega (arith, one_le (f n) (g n) (h n (omega arith)), c (omega arith))
