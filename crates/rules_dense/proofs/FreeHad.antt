-- A ghost field says what a row's places are with no number of bits; the numbers can be looked up.
use mathlib.Core.Path.{◌≡◌, sym, ap, subst, ◌∙◌}
use mathlib.Core.Logic.{◌⊎◌, inl, inr, ∥∥₁_elim, ∥∥₁_map}
use mathlib.Core.HLevel.{⊥_prop}
use Prim.Native.Nat.{ℕ, zero, suc, ◌+◌, ◌*◌, ◌^◌, ◌<◌}
use native.Mathlib.Bridge.{le_prop}
use native.Mathlib.Decide.{ℕ_discrete}
use native.Mathlib.Omega.{arith}
use lib.Pow.{pow-add}
use Rattle.rules_dense.specs.Gathered.{FreeRun}

-- x is 2 ^ (b + k) for one of the first n numbers b
record Power (x k n : ℕ) : Type 0 where
  pub at : ℕ
  pub below : at < n
  pub is : x ≡ 2 ^ (at + k)

look_up : (x k n : ℕ) → Power x k n ⊎ (Power x k n → ⊥)
look_up x k zero = inr (λ p. omega (arith, p.below))
look_up x k (suc n) = go (ℕ_discrete x (2 ^ (n + k))) (look_up x k n)
  where
    go : Dec (x ≡ 2 ^ (n + k)) → Power x k n ⊎ (Power x k n → ⊥) → Power x k (suc n) ⊎ (Power x k (suc n) → ⊥)
    go (yes e) s = inl (record { at = n; below = omega arith; is = e })
    go (no e) (inl p) = inl (record { at = p.at; below = omega (arith, p.below); is = p.is })
    go (no e) (inr f) = inr (λ p. back p (ℕ_discrete p.at n))
      where
        back : (p : Power x k (suc n)) → Dec (p.at ≡ n) → ⊥
        back p (yes q) = e (subst (λ (b : ℕ). x ≡ 2 ^ (b + k)) q p.is)
        back p (no q) = f (record { at = p.at; below = omega (arith, p.below); is = p.is })

power_had : (x k n : ℕ) → ∥ Power x k n ∥₁ → Power x k n
power_had x k n h = go (look_up x k n)
  where
    go : Power x k n ⊎ (Power x k n → ⊥) → Power x k n
    go (inl p) = p
    go (inr f) = absurd (∥∥₁_elim h ⊥_prop f)

less_than_power : (b : ℕ) → b < 2 ^ b
less_than_power zero = omega arith
less_than_power (suc b) = omega (arith, less_than_power b, pow-add 2 1 b)

power_of : (x b : ℕ) → x ≡ 2 ^ b → Power x 0 x
power_of x b e = record { at = b; below = omega (arith, e, less_than_power b); is = e ∙ ap (λ (c : ℕ). 2 ^ c) (omega arith) }

pub run_had : {low times count : ℕ} → ∥ FreeRun low times count ∥₁ → FreeRun low times count
run_had {low} {times} {count} h =
    record {
      below = below.at;
      bits = bits.at;
      above = above.at;
      low_is = low_is;
      times_is = bits.is ∙ ap (λ (c : ℕ). 2 ^ c) (omega arith);
      count_is = above.is;
      small = ∥∥₁_elim h le_prop (λ f. f.small);
    }
  where
    below : Power low 0 low
    below = power_had low 0 low (∥∥₁_map h (λ f. power_of low f.below f.low_is))

    low_is : low ≡ 2 ^ below.at
    low_is = below.is ∙ ap (λ (c : ℕ). 2 ^ c) (omega arith)

    bits : Power times 0 times
    bits = power_had times 0 times (∥∥₁_map h (λ f. power_of times f.bits f.times_is))

    same : (f : FreeRun low times count) → count ≡ 2 ^ (f.above + below.at)
    same f = f.count_is ∙ pow-add 2 f.above f.below ∙ ap (λ (x : ℕ). 2 ^ f.above * x) (sym f.low_is ∙ low_is) ∙ sym (pow-add 2 f.above below.at)

    above : Power count below.at count
    above = power_had count below.at count (∥∥₁_map h (λ f. record { at = f.above; below = omega (arith, same f, less_than_power (f.above + below.at)); is = same f }))
