-- Tests of the numbers below n: one that fails, and the first that passes.
use mathlib.Core.Path.{◌≡◌, refl}
use mathlib.Core.Bool.{Bool, false, Bool-discrete}
use mathlib.Core.Logic.{◌⊎◌, inl, inr}
use Prim.Native.Nat.{ℕ, zero, suc, ◌<◌}
use native.Mathlib.Decide.{ℕ_discrete, dec_lt}
use native.Mathlib.Omega.{arith}
use lib.Dec.{T as Is}
use borrow.Author.Tests.{lt-ltb, le-ltb}
use Rattle.plan.specs.Refusal.{every}
use Rattle.plan.proofs.Ranges.{every_of}
use Rattle.plan.proofs.Truth.{is?, is_true, is_not}
use Rattle.rules_panel.proofs.Counts.{Some, some?}
use Rattle.rules_follow.specs.Following.{first}

-- ---- a test of every number
pub every_fails : (f : ℕ → Bool) (n : ℕ) → every f n ≡ false → Some (λ i. f i ≡ false) n
every_fails f n e = go (some? (λ i. f i ≡ false) (λ i. Bool-discrete (f i) false) n)
  where
    passes : (Some (λ i. f i ≡ false) n → ⊥) → (i : ℕ) → i < n → Is (f i) ⊎ (f i ≡ false) → Is (f i)
    passes none i h (inl t) = t
    passes none i h (inr q) = absurd (none (record { number = i; under = h; holds = q }))

    go : Dec (Some (λ i. f i ≡ false) n) → Some (λ i. f i ≡ false) n
    go (yes s) = s
    go (no none) = absurd (is_not e (every_of f n (λ i h. passes none i h (is? (f i)))))

-- ---- the first that passes
pub first_passes : (f : ℕ → Bool) (n : ℕ) → first f n < n → Is (f (first f n))
unfolding first
first_passes f zero h = absurd (omega arith)
first_passes f (suc n) h = go (dec_lt (first f n) n) (is? (f n)) (first_passes f n) h
  where
    go : Dec (first f n < n) → Is (f n) ⊎ (f n ≡ false) → (first f n < n → Is (f (first f n))) → first f (suc n) < suc n → Is (f (first f (suc n)))
    go (yes l) t before k = rw (lt-ltb (first f n) n l) (before l)
    go (no l) (inl t) before k = rw (le-ltb (first f n) n (omega arith), is_true (f n) t) t
    go (no l) (inr e) before k = absurd (omega (arith, rw (le-ltb (first f n) n (omega arith), e) at k))

pub first_none : (f : ℕ → Bool) (n : ℕ) → (first f n < n → ⊥) → (i : ℕ) → i < n → f i ≡ false
unfolding first
first_none f zero h i k = absurd (omega arith)
first_none f (suc n) h i k = go (dec_lt (first f n) n) (is? (f n)) (first_none f n) (ℕ_discrete i n) h
  where
    go : Dec (first f n < n) → Is (f n) ⊎ (f n ≡ false) → ((first f n < n → ⊥) → (i : ℕ) → i < n → f i ≡ false) → Dec (i ≡ n) → (first f (suc n) < suc n → ⊥) → f i ≡ false
    go (yes l) t before d h = absurd (h (rw (lt-ltb (first f n) n l) (omega arith)))
    go (no l) (inl t) before d h = absurd (h (rw (le-ltb (first f n) n (omega arith), is_true (f n) t) (omega arith)))
    go (no l) (inr e) before (yes q) h = rw q e
    go (no l) (inr e) before (no q) h = before l i (omega arith)

pub first_found : (f : ℕ → Bool) (n i : ℕ) → i < n → Is (f i) → first f n < n
first_found f n i h t = go (dec_lt (first f n) n)
  where
    go : Dec (first f n < n) → first f n < n
    go (yes l) = l
    go (no l) = absurd (is_not (first_none f n l i h) t)

pub first_same : (f g : ℕ → Bool) (n : ℕ) → ((i : ℕ) → i < n → f i ≡ g i) → first f n ≡ first g n
unfolding first
first_same f g zero h = refl
first_same f g (suc n) h = rw (first_same f g n (λ i k. h i (omega arith)), h n (omega arith))
