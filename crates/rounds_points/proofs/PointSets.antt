-- Laws of sets of points: one point, a union, a point taken out, sets apart, the points below a bound, and the lowest point.
use mathlib.Core.Path.{◌≡◌, refl, sym, ap, ap₂, ◌∙◌}
use mathlib.Core.Bool.{false}
use mathlib.Core.Logic.{◌⊎◌, inl, inr}
use Prim.Native.Nat.{ℕ, zero, suc, ◌+◌, ◌-◌, ◌*◌, ◌/◌, ◌%◌, ◌^◌, ◌≤◌, ◌<◌}
use native.Mathlib.Nat.{add_comm, div-one, div-eq_of_lt, div-eq-sub-div, div-mul-le_self, div-lt_iff_lt-mul, mod-lt, mod-eq_of_lt, mul-mod_left, one-mul, mul-le-mul_right, pow-suc}
use native.Mathlib.Decide.{ℕ_discrete, dec_lt}
use native.Mathlib.Numerals.{add-one}
use native.Mathlib.Omega.{arith}
use lib.Dec.{lit<, eqb→eq}
use lib.Ieee.Fits.{eq→eqb}
use lib.Bits.{bit_or, bit_and, or_shr, or_mod, and_shr, and_mod, and_mask, and_comm, and_le_r, or_lt, or_comm, or_disjoint}
use lib.Count.{count_trailing_zeros, under}
use lib.Pow.{pow_pos, pow_mono, pow-lt, pow-add, shl-shr, shr-shr, ones_lt}
use Rattle.plan.proofs.Truth.{is?, is_true}
use Rattle.plan.specs.LinkSet.{contains, remove}
use Rattle.rounds_points.specs.PointSets.{In}

-- ---- bits
-- the bit of point y in a set
abbrev bit_of : ℕ → ℕ → ℕ
bit_of s y = s / 2 ^ y % 2

bit_lt : (s y : ℕ) → bit_of s y < 2
bit_lt s y = mod-lt _ (lit< tt)

in_of : (s y : ℕ) → bit_of s y ≡ 1 → In s y
unfolding contains
in_of s y e = eq→eqb e

bit_of_lem : (s y : ℕ) → In s y → bit_of s y ≡ 1
unfolding contains
bit_of_lem s y h = eqb→eq (bit_of s y) 1 h

self_bit : (y : ℕ) → bit_of (2 ^ y) y ≡ 1
self_bit y = ap (λ (x : ℕ). x % 2) (ap (λ (x : ℕ). x / 2 ^ y) (sym (one-mul (2 ^ y))) ∙ shl-shr 1 y)

or_bit : (s t y : ℕ) → bit_of (bit_or s t) y ≡ bit_or (bit_of s y) (bit_of t y)
or_bit s t y = ap (λ (x : ℕ). x % 2) (or_shr s t y) ∙ or_mod (s / 2 ^ y) (t / 2 ^ y) 1

and_bit : (s t y : ℕ) → bit_of (bit_and s t) y ≡ bit_and (bit_of s y) (bit_of t y)
and_bit s t y = ap (λ (x : ℕ). x % 2) (and_shr s t y) ∙ and_mod (s / 2 ^ y) (t / 2 ^ y) 1

-- a number below 2 ^ y has no bit y
high_bit : (s y : ℕ) → s < 2 ^ y → bit_of s y ≡ 0
high_bit s y h = ap (λ (x : ℕ). x % 2) (div-eq_of_lt h)

-- ---- no points, and those below a bound
pub none_in : (y : ℕ) → In 0 y → ⊥
none_in y h = omega (arith, bit_of_lem 0 y h, high_bit 0 y (pow_pos y))

pub point_below : (s n y : ℕ) → In s y → s < 2 ^ n → y < n
point_below s n y h l = go (dec_lt y n)
  where
    go : Dec (y < n) → y < n
    go (yes a) = a
    go (no a) = absurd (omega (arith, bit_of_lem s y h, high_bit s y (omega (arith, pow_mono {i = n} {j = y} (omega arith)))))

-- ---- one point
pub own_bit : (y : ℕ) → In (2 ^ y) y
own_bit y = in_of (2 ^ y) y (self_bit y)

other_bit : (x y : ℕ) → (y ≡ x → ⊥) → bit_of (2 ^ x) y ≡ 0
other_bit x y e = go (dec_lt x y)
  where
    go : Dec (x < y) → bit_of (2 ^ x) y ≡ 0
    go (yes a) = high_bit (2 ^ x) y (pow-lt a)
    go (no a) =
        let d : ℕ = x - suc y in
        let s : x ≡ suc d + y = omega arith in
        ap (λ (k : ℕ). bit_of (2 ^ k) y) s ∙ ap (λ (k : ℕ). bit_of k y) (pow-add 2 (suc d) y) ∙ ap (λ (k : ℕ). k % 2) (shl-shr (2 ^ suc d) y) ∙ ap (λ (k : ℕ). k % 2) (pow-suc 2 d) ∙ mul-mod_left (2 ^ d) 2

pub only_own : (x y : ℕ) → In (2 ^ x) y → y ≡ x
only_own x y h = go (ℕ_discrete y x)
  where
    go : Dec (y ≡ x) → y ≡ x
    go (yes e) = e
    go (no e) = absurd (omega (arith, bit_of_lem (2 ^ x) y h, other_bit x y e))

-- ---- a union
one_or : (b : ℕ) → b < 2 → bit_or 1 b ≡ 1
one_or zero h = refl
one_or (suc zero) h = refl
one_or (suc (suc b)) h = absurd (omega arith)

or_one : (a b : ℕ) → a < 2 → bit_or a b ≡ 1 → (a ≡ 1) ⊎ (b ≡ 1)
or_one zero b h e = inr e
or_one (suc zero) b h e = inl refl
or_one (suc (suc a)) b h e = absurd (omega arith)

pub in_left : (s t y : ℕ) → In s y → In (bit_or s t) y
in_left s t y h = in_of (bit_or s t) y (or_bit s t y ∙ ap (λ (x : ℕ). bit_or x (bit_of t y)) (bit_of_lem s y h) ∙ one_or (bit_of t y) (bit_lt t y))

pub in_right : (s t y : ℕ) → In t y → In (bit_or s t) y
in_right s t y h = rw (or_comm s t) (in_left t s y h)

pub in_either : (s t y : ℕ) → In (bit_or s t) y → In s y ⊎ In t y
in_either s t y h = go (or_one (bit_of s y) (bit_of t y) (bit_lt s y) (sym (or_bit s t y) ∙ bit_of_lem (bit_or s t) y h))
  where
    go : (bit_of s y ≡ 1) ⊎ (bit_of t y ≡ 1) → In s y ⊎ In t y
    go (inl e) = inl (in_of s y e)
    go (inr e) = inr (in_of t y e)

pub union_below : (n s t : ℕ) → s < 2 ^ n → t < 2 ^ n → bit_or s t < 2 ^ n
union_below n s t h k = or_lt n s t h k

-- ---- points in both sets
pub in_both : (s t y : ℕ) → In s y → In t y → In (bit_and s t) y
in_both s t y h k = in_of (bit_and s t) y (and_bit s t y ∙ ap₂ bit_and (bit_of_lem s y h) (bit_of_lem t y k))

and_one : (a b : ℕ) → a < 2 → bit_and a b ≡ 1 → a ≡ 1
and_one zero b h e = e
and_one (suc zero) b h e = refl
and_one (suc (suc a)) b h e = absurd (omega arith)

pub in_first : (s t y : ℕ) → In (bit_and s t) y → In s y
in_first s t y h = in_of s y (and_one (bit_of s y) (bit_of t y) (bit_lt s y) (sym (and_bit s t y) ∙ bit_of_lem (bit_and s t) y h))

pub in_second : (s t y : ℕ) → In (bit_and s t) y → In t y
in_second s t y h = in_first t s y (rw (and_comm s t) at h)

pub apart : (s t y : ℕ) → bit_and s t ≡ 0 → In s y → In t y → ⊥
apart s t y e h k = none_in y (rw e at (in_both s t y h k))

-- point 0
pub zero_in : (s : ℕ) → (bit_and s 1 ≡ 0 → ⊥) → In s 0
zero_in s h =
    let e : bit_and s 1 ≡ s % 2 = and_mask s 1 in
    in_of s 0 (ap (λ (x : ℕ). x % 2) (div-one s) ∙ go (s % 2) (mod-lt s (lit< tt)) (λ z. h (e ∙ z)))
  where
    go : (b : ℕ) → b < 2 → (b ≡ 0 → ⊥) → b ≡ 1
    go b l k = omega arith

pub zero_out : (s : ℕ) → bit_and s 1 ≡ 0 → In s 0 → ⊥
zero_out s e h = apart s 1 0 e h (own_bit 0)

-- ---- all points below a bound
pub in_all : (n y : ℕ) → y < n → In (2 ^ n - 1) y
in_all n y h =
    let cut : bit_and (2 ^ y) (2 ^ n - 1) ≡ 2 ^ y = and_mask (2 ^ y) n ∙ mod-eq_of_lt (pow-lt h) in
    in_second (2 ^ y) (2 ^ n - 1) y (rw cut (own_bit y))

pub all_below : (n : ℕ) → 2 ^ n - 1 < 2 ^ n
all_below n = ones_lt n

-- a set with none of them is 0
unset : (s y : ℕ) → (In s y → ⊥) → bit_of s y ≡ 0
unset s y h = go (ℕ_discrete (bit_of s y) 1)
  where
    go : Dec (bit_of s y ≡ 1) → bit_of s y ≡ 0
    go (yes e) = absurd (h (in_of s y e))
    go (no e) = omega (arith, bit_lt s y)

pub is_empty : (n s : ℕ) → s < 2 ^ n → ((y : ℕ) → y < n → In s y → ⊥) → s ≡ 0
is_empty zero s l h = omega arith
is_empty (suc n) s l h =
    let few : s / 2 ^ n < 2 = (div-lt_iff_lt-mul (pow_pos n)).1 (omega arith) in
    let none : s / 2 ^ n ≡ 0 = sym (mod-eq_of_lt few) ∙ unset s n (h n (omega arith)) in
    let less : s < 1 * 2 ^ n = (div-lt_iff_lt-mul (pow_pos n)).0 (omega arith) in
    is_empty n s (omega arith) (λ y k. h y (omega arith))

-- ---- a point taken out
pub taken : (s x : ℕ) → In s x → remove s x ≡ s - 2 ^ x
unfolding remove
taken s x h = rw (is_true (contains s x) h)

left_alone : (s x : ℕ) → contains s x ≡ false → remove s x ≡ s
unfolding remove
left_alone s x e = rw e

before_odd : (q : ℕ) → (q + 1) % 2 ≡ 1 → q % 2 ≡ 0
before_odd q e = omega arith

module _ (s x : ℕ) (h : In s x) where
  pub own_le : 2 ^ x ≤ s
  own_le =
      let above : 1 * 2 ^ x ≤ s / 2 ^ x * 2 ^ x = mul-le-mul_right (2 ^ x) (omega (arith, bit_of_lem s x h)) in
      omega (arith, div-mul-le_self s (2 ^ x))

  pub rest_less : s - 2 ^ x < s
  rest_less = omega (arith, own_le, pow_pos x)

  rest_out : In (s - 2 ^ x) x → ⊥
  rest_out k = omega (arith, bit_of_lem (s - 2 ^ x) x k, before_odd ((s - 2 ^ x) / 2 ^ x) (ap (λ (q : ℕ). q % 2) (sym (div-eq-sub-div (pow_pos x) own_le)) ∙ bit_of_lem s x h))

  -- the set is the rest and the point
  rest_and : (y : ℕ) → In (bit_and (s - 2 ^ x) (2 ^ x)) y → ⊥
  rest_and y k = rest_out (rw (only_own x y (in_second (s - 2 ^ x) (2 ^ x) y k)) at (in_first (s - 2 ^ x) (2 ^ x) y k))

  rest_or : bit_or (s - 2 ^ x) (2 ^ x) ≡ s
  rest_or =
      let none : bit_and (s - 2 ^ x) (2 ^ x) ≡ 0 = is_empty (suc x) _ (omega (arith, and_le_r (s - 2 ^ x) (2 ^ x), pow_pos x)) (λ y l. rest_and y) in
      or_disjoint (s - 2 ^ x) (2 ^ x) none ∙ omega (arith, own_le)

-- what is left was there, all but the point is left, and the point is not
pub in_whole : (s x y : ℕ) → In (remove s x) y → In s y
in_whole s x y k = go (is? (contains s x))
  where
    go : In s x ⊎ (contains s x ≡ false) → In s y
    go (inl h) = rw (rest_or s x h) at (in_left (s - 2 ^ x) (2 ^ x) y (rw (taken s x h) at k))
    go (inr e) = rw (left_alone s x e) at k

pub in_rest : (s x y : ℕ) → In s y → (y ≡ x → ⊥) → In (remove s x) y
in_rest s x y k d = go (is? (contains s x))
  where
    one : In (s - 2 ^ x) y ⊎ In (2 ^ x) y → In (s - 2 ^ x) y
    one (inl a) = a
    one (inr a) = absurd (d (only_own x y a))

    go : In s x ⊎ (contains s x ≡ false) → In (remove s x) y
    go (inl h) = rw (taken s x h) (one (in_either (s - 2 ^ x) (2 ^ x) y (rw (rest_or s x h) k)))
    go (inr e) = rw (left_alone s x e) k

pub not_in_rest : (s x : ℕ) → In (remove s x) x → ⊥
not_in_rest s x k = let h = in_whole s x x k in rest_out s x h (rw (taken s x h) at k)

-- ---- the lowest point
half_in : (s y : ℕ) → In (s / 2) y → In s (suc y)
half_in s y h = in_of s (suc y) (ap (λ (x : ℕ). x % 2) (ap (λ (x : ℕ). s / 2 ^ x) (sym (add_comm 1 y ∙ add-one y)) ∙ sym (shr-shr s 1 y)) ∙ bit_of_lem (s / 2) y h)

pub lowest_in : (w k s : ℕ) → k ≤ w → 0 < s → s < 2 ^ k → In s (count_trailing_zeros w s) × (count_trailing_zeros w s < k)
unfolding count_trailing_zeros
lowest_in w zero s hw hs h = absurd (omega arith)
lowest_in zero (suc k) s hw hs h = absurd (omega arith)
lowest_in (suc w) (suc k) s hw hs h = go (s % 2) refl (λ p q. lowest_in w k (s / 2) (omega arith) p q)
  where
    go : (b : ℕ) → s % 2 ≡ b → (0 < s / 2 → s / 2 < 2 ^ k → In (s / 2) (count_trailing_zeros w (s / 2)) × (count_trailing_zeros w (s / 2) < k)) → In s (under b (count_trailing_zeros w (s / 2))) × (under b (count_trailing_zeros w (s / 2)) < suc k)
    go zero e below = let r = below (omega arith) (omega arith) in (half_in s _ r.0, omega arith)
    go (suc b) e below = (in_of s 0 (ap (λ (x : ℕ). x % 2) (div-one s) ∙ omega arith), omega arith)

in_half : (s y : ℕ) → In s (suc y) → In (s / 2) y
in_half s y h = in_of (s / 2) y (ap (λ (x : ℕ). x % 2) (shr-shr s 1 y ∙ ap (λ (x : ℕ). s / 2 ^ x) (add_comm 1 y ∙ add-one y)) ∙ bit_of_lem s (suc y) h)

-- and no point is below it
pub lowest_least : (w s y : ℕ) → In s y → count_trailing_zeros w s ≤ y
unfolding count_trailing_zeros
lowest_least zero s y h = omega arith
lowest_least (suc w) s zero h = go (s % 2) (sym (ap (λ (x : ℕ). x % 2) (div-one s)) ∙ bit_of_lem s 0 h)
  where
    go : (b : ℕ) → b ≡ 1 → under b (count_trailing_zeros w (s / 2)) ≤ 0
    go zero e = absurd (omega (arith, e))
    go (suc b) e = omega arith
lowest_least (suc w) s (suc y) h = go (s % 2) (lowest_least w (s / 2) y (in_half s y h))
  where
    go : (b : ℕ) → count_trailing_zeros w (s / 2) ≤ y → under b (count_trailing_zeros w (s / 2)) ≤ suc y
    go zero l = omega (arith, l)
    go (suc b) l = omega arith

-- the shift in 64 bits that makes a point's bit
pub shifted : (x : ℕ) → x < 64 → 1 * 2 ^ x % 2 ^ 64 ≡ 2 ^ x
shifted x h = rw (one-mul (2 ^ x)) (mod-eq_of_lt (pow-lt h))

-- the lowest point taken out of a number of 64 bits
pub lowest_taken : (s : ℕ) → (s ≡ 0 → ⊥) → s < 2 ^ 64 → let x = count_trailing_zeros 64 s in let b = 1 * 2 ^ x % 2 ^ 64 in (b ≤ s) × In s x × (x < 64) × (s - b ≡ remove s x) × (s - b < s) × ((y : ℕ) → In s y → x ≤ y)
lowest_taken s h l =
    let x = count_trailing_zeros 64 s in
    let r = lowest_in 64 64 s (omega arith) (omega arith) l in
    rw (shifted x r.1) (own_le s x r.0, r.0, r.1, sym (taken s x r.0), rest_less s x r.0, λ y i. lowest_least 64 s y i)
