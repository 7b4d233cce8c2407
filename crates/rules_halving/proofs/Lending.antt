-- What `halve` lends to its three calls, and what they leave: the first has the lower halves, the second the lower and the upper half, the third the upper half and the joined run.
use mathlib.Core.Path.{◌≡◌, refl, sym, ap, subst, ◌∙◌}
use mathlib.Core.List.{List, ◌++◌}
use Prim.Native.Nat.{ℕ, zero, suc, ◌+◌, ◌-◌, ◌/◌, ◌^◌, ◌≤◌, ◌<◌}
use native.Mathlib.Omega.{arith}
use borrow.Rule.Slice.PartMut.{put_mid}
use lib.ListN.{length, get_or, take, drop, length-drop}
use lib.Seq.{take_at, drop_at, take-take, length-take-le}
use Rattle.rules_fill.proofs.Laying.{lent_part, lent_back}
use Rattle.rules_halving.specs.Products.{Product, PairsLent, HalveLent, Joined}
use Rattle.rules_halving.proofs.Loops.{below_same}
use Rattle.rules_halving.proofs.ThreeHalves.{three_halves}

-- what a call makes of the second and the third run
abbrev pub Made : ℕ → List ℕ → List ℕ → ℕ → List ℕ → ℕ → List ℕ → List ℕ → Type 0
Made n F G from H top G' H' = Product n F G from H H' × ((take top G' ≡ take top G) × ((length G' ≡ length G) × (length H' ≡ length H)))

pub record Half (n z : ℕ) : Type 0 where
  pub power : ℕ
  pub power_is : z ≡ 2 ^ power
  pub twice : n ≡ z + z
  pub less : z < n

pub half : {n : ℕ} {F G : List ℕ} {from : ℕ} {H : List ℕ} → PairsLent n F G from H → 4 < n → Half n (n / 2)
half {n} l h = go l.power l.power_is
  where
    go : (p : ℕ) → n ≡ 2 ^ p → Half n (n / 2)
    go zero e = absurd (omega arith)
    go (suc p) e = let q : n / 2 ≡ 2 ^ p = omega arith in record { power = p; power_is = q; twice = omega arith; less = omega arith }

-- ---- the upper half, lent and taken back
pub part_of : (z : ℕ) (L U A : List ℕ) → length L ≡ z → A ≡ L ++ U → take (length A - z) (drop z A) ≡ U
part_of z L U A l e = lent_part z A ∙ ap (drop z) e ∙ drop_at L U z l

pub put_back : (z : ℕ) (L U A U' : List ℕ) → length L ≡ z → A ≡ L ++ U → put_mid z (length A - z) A U' ≡ L ++ U'
put_back z L U A U' l e = lent_back z A U' ∙ ap (λ (B : List ℕ). take z B ++ U') e ∙ ap (λ (B : List ℕ). B ++ U') (take_at L U z l)

-- The laws of what is lent know lengths only: what the runs hold is the last law's.
module _ {n z from top : ℕ} {F G H : List ℕ} (lent : HalveLent n F G from H top) (h : Half n z) where
  pub low_long : (A : List ℕ) → length A ≡ n → z ≡ length (take z A)
  low_long A e = sym (length-take-le z A (omega (arith, h.twice)))

  high_long : (A : List ℕ) → length A ≡ n → length (drop z A) ≡ z
  high_long A e = length-drop z A ∙ omega (arith, h.twice)

  half_lent : {X G' Y : List ℕ} {at top' : ℕ} → length X ≡ z → length Y ≡ z → at + z ≤ top' → top' + z ≤ length G' → HalveLent z X G' at Y top'
  half_lent x y i j = record { pairs = record { power = h.power; power_is = h.power_is; long_first = x; long_second = omega arith; long_third = y }; below_top = i; room = j }

  pub first_lent : {at : ℕ} → at + z ≤ from + n → HalveLent z (take z F) G at (take z H) top
  first_lent i = half_lent (sym (low_long F lent.pairs.long_first)) (sym (low_long H lent.pairs.long_third)) (omega (arith, lent.below_top)) (omega (arith, h.twice, lent.room))

  module _ (L : List ℕ) (long_first : length L ≡ length (take z H)) where
    abbrev H₁ : List ℕ
    H₁ = L ++ drop z H

    long_low : length L ≡ z
    long_low = long_first ∙ sym (low_long H lent.pairs.long_third)

    part_once : take (length H₁ - z) (drop z H₁) ≡ drop z H
    part_once = part_of z L (drop z H) H₁ long_low refl

    long_part : length (take (length H₁ - z) (drop z H₁)) ≡ z
    long_part = ap length part_once ∙ high_long H lent.pairs.long_third

    pub second_lent : {G₁ : List ℕ} {at : ℕ} → length G₁ ≡ length G → at + z ≤ from + n → HalveLent z (take z F) G₁ at (take (length H₁ - z) (drop z H₁)) top
    second_lent e i = half_lent (sym (low_long F lent.pairs.long_first)) long_part (omega (arith, lent.below_top)) (omega (arith, h.twice, lent.room))

    module _ (U : List ℕ) (long_second : length U ≡ length (take (length H₁ - z) (drop z H₁))) where
      abbrev H₂ : List ℕ
      H₂ = put_mid z (length H₁ - z) H₁ U

      twice_is : H₂ ≡ L ++ U
      twice_is = put_back z L (drop z H) H₁ U long_low refl

      part_twice : take (length H₂ - z) (drop z H₂) ≡ U
      part_twice = part_of z L U H₂ long_low twice_is

      pub third_lent : {G₃ : List ℕ} {at : ℕ} → length G₃ ≡ length G → at ≤ top → HalveLent z (take (length F - z) (drop z F)) G₃ at (take (length H₂ - z) (drop z H₂)) (top + z)
      third_lent e i = half_lent (ap length (lent_part z F) ∙ high_long F lent.pairs.long_first) (ap length part_twice ∙ long_second ∙ long_part) (omega arith) (omega (arith, h.twice, lent.room))

  -- what the three calls and the joined run make is what all pairs give
  module _ (G₁ L : List ℕ) (first : Made z (take z F) G from (take z H) top G₁ L) (G₂ U : List ℕ) (second : Made z (take z F) G₁ (from + z) (take (length (L ++ drop z H) - z) (drop z (L ++ drop z H))) top G₂ U)
      (G₃ : List ℕ) (joined : Joined G₂ from z top G₃) (G₄ U' : List ℕ)
      (third : Made z (take (length F - z) (drop z F)) G₃ top (take (length (H₂ L first.1.1.1 U second.1.1.1) - z) (drop z (H₂ L first.1.1.1 U second.1.1.1))) (top + z) G₄ U') where
    kept : take top G₂ ≡ take top G
    kept = second.1.0 ∙ first.1.0

    pub same_below : take top G₄ ≡ take top G
    same_below = sym (take-take top (top + z) G₄ (omega arith)) ∙ ap (take top) third.1.0 ∙ take-take top (top + z) G₃ (omega arith) ∙ joined.same_below ∙ kept

    low : length L ≡ z
    low = long_low L first.1.1.1

    upper : Product z (drop z F) G₃ top U U'
    upper = subst (λ (A : List ℕ). Product z A G₃ top U U') (lent_part z F) (subst (λ (B : List ℕ). Product z (take (length F - z) (drop z F)) G₃ top B U') (part_twice L first.1.1.1 U second.1.1.1) third.0)

    same : (i : ℕ) → i < z → get_or G₁ (from + z + i) 0 ≡ get_or G (from + (z + i)) 0
    same i k = let e : from + z + i ≡ from + (z + i) = omega arith in rw e (below_same top G G₁ first.1.0 (from + (z + i)) (omega (arith, h.twice, lent.below_top)))

    old : (i : ℕ) → i < n → get_or G₂ (from + i) 0 ≡ get_or G (from + i) 0
    old i k = below_same top G G₂ kept (from + i) (omega (arith, lent.below_top))

    product : Product n F G from H (L ++ U')
    product = rw h.twice (three_halves h.power z from top F G G₁ G₃ H L U U' h.power_is low same (λ i k. omega (arith, joined.greater i k, old i (omega (arith, h.twice)), old (z + i) (omega (arith, h.twice)))) first.0 (subst (λ (A : List ℕ). Product z (take z F) G₁ (from + z) A U) (part_once L first.1.1.1) second.0) upper)

    pub made : Product n F G from H (put_mid z (length (H₂ L first.1.1.1 U second.1.1.1) - z) (H₂ L first.1.1.1 U second.1.1.1) U')
    made = rw (put_back z L U _ U' low (twice_is L first.1.1.1 U second.1.1.1)) product
