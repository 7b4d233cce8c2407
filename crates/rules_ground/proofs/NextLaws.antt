-- Numbers with no bit outside a mask, bit by bit: the next of them after one, and which numbers have none outside which.
use mathlib.Core.Path.{◌≡◌, refl, ap, ap₂, ◌∙◌}
use Prim.Native.Nat.{ℕ, zero, suc, ◌+◌, ◌-◌, ◌*◌, ◌/◌, ◌%◌, ◌^◌, ◌≤◌, ◌<◌, min, max}
use native.Mathlib.Nat.{pow-suc, div-add-mod'}
use native.Mathlib.Decide.{dec_le}
use native.Mathlib.Omega.{arith}
use lib.Arith.{bin_ind}
use lib.Bits.{bit_and, bit_or, and_step, or_step, and_le_l, and_le_r}
use Rattle.rules_ground.specs.Places.{Within, Walked, Next}

-- ---- halves
and_half : (a b : ℕ) → bit_and a b / 2 ≡ bit_and (a / 2) (b / 2)
and_half a b = omega (arith, and_step a b)

and_low : (a b : ℕ) → bit_and a b % 2 ≡ min (a % 2) (b % 2)
and_low a b = omega (arith, and_step a b)

or_half : (a b : ℕ) → bit_or a b / 2 ≡ bit_or (a / 2) (b / 2)
or_half a b = omega (arith, or_step a b)

or_low : (a b : ℕ) → bit_or a b % 2 ≡ max (a % 2) (b % 2)
or_low a b = omega (arith, or_step a b)

half_within : (m t : ℕ) → Within m t → Within (m / 2) (t / 2) × (t % 2 ≤ m % 2)
half_within m t w = let s = and_step t m in (omega arith, omega arith)

-- ---- the next number
-- with all bits outside the mask set besides, a number is as it was within the mask
all_outside : (b m t : ℕ) → m < 2 ^ b → Within m t → bit_and (t + (2 ^ b - 1 - m)) m ≡ t
all_outside zero m t h w = omega (arith, and_le_r t m, and_le_r (t + (2 ^ 0 - 1 - m)) m)
all_outside (suc b) m t h w =
    let p : 2 ^ suc b ≡ 2 ^ b * 2 = pow-suc 2 b in
    let k = half_within m t w in
    let x : ℕ = t + (2 ^ suc b - 1 - m) in
    let half : x / 2 ≡ t / 2 + (2 ^ b - 1 - m / 2) = omega (arith, k.1) in
    let low : min (x % 2) (m % 2) ≡ t % 2 = omega (arith, k.1) in
    let rest = ap (λ (y : ℕ). bit_and y (m / 2)) half ∙ all_outside b (m / 2) (t / 2) (omega arith) k.0 in
    and_step x m ∙ ap₂ (λ (y z : ℕ). y * 2 + z) rest low ∙ div-add-mod' t 2

-- the least number within the mask that is above t, found by a carry through all bits outside
abbrev Least : ℕ → ℕ → ℕ → ℕ → Type 0
Least b m t j = (t < bit_and (t + (2 ^ b - m)) m) × (bit_and (t + (2 ^ b - m)) m ≤ j)

pub next_least : (b m t j : ℕ) → m < 2 ^ b → Within m t → Within m j → t < j → Least b m t j
next_least zero m t j h w v l = absurd (omega (arith, and_le_r j m))
next_least (suc b) m t j h w v l = go (half_within m t w) (half_within m j v) (pow-suc 2 b) (dec_le (m % 2) (t % 2)) (next_least b (m / 2) (t / 2) (j / 2))
  where
    x : ℕ
    x = t + (2 ^ suc b - m)

    go : Within (m / 2) (t / 2) × (t % 2 ≤ m % 2) → Within (m / 2) (j / 2) × (j % 2 ≤ m % 2) → 2 ^ suc b ≡ 2 ^ b * 2 → Dec (m % 2 ≤ t % 2)
        → (m / 2 < 2 ^ b → Within (m / 2) (t / 2) → Within (m / 2) (j / 2) → t / 2 < j / 2 → Least b (m / 2) (t / 2) (j / 2)) → (t < bit_and x m) × (bit_and x m ≤ j)
    go k q p (yes e) ih =
        let half : x / 2 ≡ t / 2 + (2 ^ b - m / 2) = omega (arith, k.1) in
        let low : x % 2 ≡ 0 = omega (arith, k.1) in
        let n = ih (omega arith) k.0 q.0 (omega (arith, k.1, q.1)) in
        let s : bit_and x m ≡ bit_and (t / 2 + (2 ^ b - m / 2)) (m / 2) * 2 + min 0 (m % 2) = and_step x m ∙ ap₂ (λ (y z : ℕ). bit_and y (m / 2) * 2 + min z (m % 2)) half low in
        above (bit_and (t / 2 + (2 ^ b - m / 2)) (m / 2)) (bit_and x m) s n.0 n.1
      where
        above : (n r : ℕ) → r ≡ n * 2 + min 0 (m % 2) → t / 2 < n → n ≤ j / 2 → (t < r) × (r ≤ j)
        above n r s f g = (omega arith, omega arith)
    go k q p (no e) ih =
        let half : x / 2 ≡ t / 2 + (2 ^ b - 1 - m / 2) = omega arith in
        let low : min (x % 2) (m % 2) ≡ 1 = omega arith in
        let rest = ap (λ (y : ℕ). bit_and y (m / 2)) half ∙ all_outside b (m / 2) (t / 2) (omega arith) k.0 in
        let s : bit_and x m ≡ t / 2 * 2 + 1 = and_step x m ∙ ap₂ (λ (y z : ℕ). y * 2 + z) rest low in
        after (bit_and x m) s
      where
        after : (r : ℕ) → r ≡ t / 2 * 2 + 1 → (t < r) × (r ≤ j)
        after r s = (omega arith, omega arith)

-- ---- which numbers have no bit outside which
pub and_within : (a b : ℕ) → Within b (bit_and a b)
and_within = bin_ind (λ (a : ℕ). (b : ℕ) → Within b (bit_and a b)) (λ b. refl) step
  where
    step : (a : ℕ) → ((b : ℕ) → Within b (bit_and (a / 2) b)) → (b : ℕ) → Within b (bit_and a b)
    step a ih b =
        let s = and_step (bit_and a b) b in
        let r = ap (λ (y : ℕ). bit_and y (b / 2)) (and_half a b) ∙ ih (b / 2) in
        omega (arith, and_step a b, and_low a b)

pub within_or : (a b : ℕ) → Within (bit_or a b) a
within_or = bin_ind (λ (a : ℕ). (b : ℕ) → Within (bit_or a b) a) (λ b. refl) step
  where
    step : (a : ℕ) → ((b : ℕ) → Within (bit_or (a / 2) b) (a / 2)) → (b : ℕ) → Within (bit_or a b) a
    step a ih b =
        let s = and_step a (bit_or a b) in
        let r = ap (bit_and (a / 2)) (or_half a b) ∙ ih (b / 2) in
        omega (arith, or_low a b)

kept_bit : (x y z : ℕ) → x < 2 → y < 2 → min x (max (max (x - min x y) z) y) ≡ x
kept_bit zero y z h k = omega arith
kept_bit (suc zero) zero z h k = omega arith
kept_bit (suc zero) (suc y) z h k = omega arith
kept_bit (suc (suc x)) y z h k = absurd (omega arith)

-- a number that loses the bits of m and gets others has no bits but these and those of m
pub within_cleared : (t m e : ℕ) → Within (bit_or (bit_or (t - bit_and t m) e) m) t
within_cleared = bin_ind (λ (t : ℕ). (m e : ℕ) → Within (bit_or (bit_or (t - bit_and t m) e) m) t) (λ m e. refl) step
  where
    step : (t : ℕ) → ((m e : ℕ) → Within (bit_or (bit_or (t / 2 - bit_and (t / 2) m) e) m) (t / 2)) → (m e : ℕ) → Within (bit_or (bit_or (t - bit_and t m) e) m) t
    step t ih m e =
        let c : ℕ = t - bit_and t m in
        let d : ℕ = bit_or c e in
        let h : c / 2 ≡ t / 2 - bit_and (t / 2) (m / 2) = omega (arith, and_step t m, and_le_l t m, and_le_l (t / 2) (m / 2)) in
        let l : c % 2 ≡ t % 2 - min (t % 2) (m % 2) = omega (arith, and_step t m, and_le_l t m, and_le_l (t / 2) (m / 2)) in
        let r = ap (bit_and (t / 2)) (or_half d m ∙ ap (λ (y : ℕ). bit_or y (m / 2)) (or_half c e ∙ ap (λ (y : ℕ). bit_or y (e / 2)) h)) ∙ ih (m / 2) (e / 2) in
        let s : bit_or d m % 2 ≡ max (max (t % 2 - min (t % 2) (m % 2)) (e % 2)) (m % 2) = or_low d m ∙ ap (λ (y : ℕ). max y (m % 2)) (or_low c e ∙ ap (λ (y : ℕ). max y (e % 2)) l) in
        and_step t (bit_or d m) ∙ ap₂ (λ (y z : ℕ). y * 2 + z) r (ap (min (t % 2)) s ∙ kept_bit (t % 2) (m % 2) (e % 2) (omega arith) (omega arith)) ∙ div-add-mod' t 2

-- ---- the code's next place
module _ (t mask end : ℕ) (given : Walked t mask end) where
  found_least : (j : ℕ) → Within mask j → t < j → (t < bit_and (t + (end - mask)) mask) × (bit_and (t + (end - mask)) mask ≤ j)
  found_least j v l =
      let m = given.masked in
      rw m.end_is (next_least m.bits mask t j (rw m.end_is at m.mask_in) given.within v l)

  pub next_none : bit_and (t + (end - mask)) mask ≤ t → Next t mask end end
  next_none h = record { after = given.place_in; to = omega arith; within = λ l. omega arith; skips = λ j l b v. omega (arith, found_least j v l) }

  pub next_there : t < bit_and (t + (end - mask)) mask → Next t mask end (bit_and (t + (end - mask)) mask)
  next_there h = record { after = h; to = omega (arith, given.masked.mask_in, and_le_r (t + (end - mask)) mask); within = λ l. and_within (t + (end - mask)) mask; skips = λ j l b v. omega (arith, found_least j v l) }
