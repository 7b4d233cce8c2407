-- How many of the numbers below n pass a test: at most n, and one more where one more does.
use mathlib.Core.Path.{◌≡◌, refl, ap, subst, ◌∙◌}
use mathlib.Core.Bool.{Bool, true, false, cond}
use Prim.Native.Nat.{ℕ, zero, suc, ◌+◌, ◌≤◌, ◌<◌}
use native.Mathlib.Decide.{ℕ_discrete}
use native.Mathlib.Omega.{arith}
use lib.Dec.{T as Is}
use Rattle.rules_listed.specs.Places.{count_below}

pub count_le : (f : ℕ → Bool) (n : ℕ) → count_below f n ≤ n
unfolding count_below
count_le f zero = omega arith
count_le f (suc n) = go (f n) (count_le f n)
  where
    go : (b : Bool) → count_below f n ≤ n → cond b (suc (count_below f n)) (count_below f n) ≤ suc n
    go true h = omega arith
    go false h = omega arith

pub count_alike : (f g : ℕ → Bool) (n : ℕ) → ((i : ℕ) → i < n → f i ≡ g i) → count_below f n ≡ count_below g n
unfolding count_below
count_alike f g zero h = refl
count_alike f g (suc n) h = rw (h n (omega arith), count_alike f g n (λ i k. h i (omega arith)))

-- tests that agree but at c, where the second alone passes
pub count_more : (f g : ℕ → Bool) (c n : ℕ) → c < n → f c ≡ false → g c ≡ true → ((i : ℕ) → (i ≡ c → ⊥) → f i ≡ g i) → count_below g n ≡ count_below f n + 1
unfolding count_below
count_more f g c zero h none one same = absurd (omega arith)
count_more f g c (suc n) h none one same = go (ℕ_discrete n c) (λ k. count_more f g c n k none one same)
  where
    here : (a b : Bool) → a ≡ false → b ≡ true → count_below f n ≡ count_below g n → cond b (suc (count_below g n)) (count_below g n) ≡ cond a (suc (count_below f n)) (count_below f n) + 1
    here a b p q e = rw (p, q) (omega arith)

    there : (a b : Bool) → a ≡ b → count_below g n ≡ count_below f n + 1 → cond b (suc (count_below g n)) (count_below g n) ≡ cond a (suc (count_below f n)) (count_below f n) + 1
    there true b p e = rw (← p) (omega arith)
    there false b p e = rw (← p) e

    go : Dec (n ≡ c) → (c < n → count_below g n ≡ count_below f n + 1) → cond (g n) (suc (count_below g n)) (count_below g n) ≡ cond (f n) (suc (count_below f n)) (count_below f n) + 1
    go (yes e) k = here (f n) (g n) (rw e none) (rw e one) (count_alike f g n (λ i l. same i (λ q. omega arith)))
    go (no e) k = there (f n) (g n) (same n e) (k (omega arith))

-- at least one, and two, where numbers pass that are known
count_one : (f : ℕ → Bool) (n c : ℕ) → c < n → Is (f c) → 0 < count_below f n
unfolding count_below
count_one f zero c h i = absurd (omega arith)
count_one f (suc n) c h i = go (λ k. count_one f n c k i) (f n) refl (ℕ_discrete c n)
  where
    go : (c < n → 0 < count_below f n) → (b : Bool) → f n ≡ b → Dec (c ≡ n) → 0 < cond b (suc (count_below f n)) (count_below f n)
    go r true e d = omega arith
    go r false e (yes q) = absurd (subst Is (ap f q ∙ e) i)
    go r false e (no q) = r (omega arith)

-- 0 and another number
pub count_two : (f : ℕ → Bool) (n c : ℕ) → c < n → 0 < c → Is (f 0) → Is (f c) → 1 < count_below f n
unfolding count_below
count_two f zero c h p z i = absurd (omega arith)
count_two f (suc n) c h p z i = go (λ k. count_two f n c k p z i) (f n) refl (ℕ_discrete c n)
  where
    go : (c < n → 1 < count_below f n) → (b : Bool) → f n ≡ b → Dec (c ≡ n) → 1 < cond b (suc (count_below f n)) (count_below f n)
    go r true e d = omega (arith, count_one f n 0 (omega arith) z)
    go r false e (yes q) = absurd (subst Is (ap f q ∙ e) i)
    go r false e (no q) = r (omega arith)
