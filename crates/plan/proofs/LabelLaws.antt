-- Laws of labels: joining two is `|` digit by digit, what a join and a cleared digit are bounded by, and plain labels.
use mathlib.Core.Path.{◌≡◌, refl, sym, ap, ap₂, subst, ◌∙◌}
use mathlib.Core.Bool.{Bool, true, not, ◌&&◌}
use Prim.Native.Nat.{ℕ, zero, suc, ◌+◌, ◌*◌, ◌/◌, ◌%◌, ◌^◌, ◌≤◌, ◌<◌}
use native.Mathlib.Nat.{pow-suc, mod-lt, div-add-mod', div-lt_iff_lt-mul, one-le-pow, zero-div}
use native.Mathlib.Omega.{arith}
use lib.Dec.{eqb, lit<}
use lib.Bits.{bit_or, or_block, or_lt}
use lib.Pow.{pow-add}
use Rattle.plan.specs.Label.{digit, join_digit, join, plain, clear_digit}
use Rattle.plan.proofs.Bases.{digit_of, digit_fits}

-- ---- powers of 4
pub four_pos : (p : ℕ) → 0 < 4 ^ p
four_pos p = one-le-pow p 4 (omega arith)

-- 4 ^ j as the shift that the code makes
pub four : (j : ℕ) → 2 ^ (2 * j) ≡ 4 ^ j
four zero = refl
four (suc j) =
    let e : 2 * suc j ≡ 2 * j + 2 = omega arith in
    ap (λ (x : ℕ). 2 ^ x) e ∙ pow-add 2 (2 * j) 2 ∙ ap (λ (x : ℕ). x * 4) (four j) ∙ sym (pow-suc 4 j)

pub quarter_lt : (p a : ℕ) → a < 4 ^ suc p → a / 4 < 4 ^ p
quarter_lt p a h = (div-lt_iff_lt-mul (lit< tt)).1 (rw pow-suc at h)

-- ---- digits
-- digit j in its place is no more than the label
pub digit_le : (a j : ℕ) → digit a j * 4 ^ j ≤ a
unfolding digit digit_of
digit_le a j = digit_fits 4 (lit< tt) a j

pub clear_le : (a j : ℕ) → clear_digit a j ≤ a
unfolding clear_digit
clear_le a j = omega arith

-- the label without a digit set has none to clear
pub digit_none : (j : ℕ) → digit 0 j ≡ 0
unfolding digit
digit_none j = rw zero-div

-- ---- joining
pub below4 : (P : ℕ → Type 0) → P 0 → P 1 → P 2 → P 3 → (x : ℕ) → x < 4 → P x
below4 P a b c d zero h = a
below4 P a b c d (suc zero) h = b
below4 P a b c d (suc (suc zero)) h = c
below4 P a b c d (suc (suc (suc zero))) h = d
below4 P a b c d (suc (suc (suc (suc x)))) h = absurd (omega arith)

abbrev AtDigits : ℕ → ℕ → Type 0
AtDigits x y = bit_or x y ≡ join_digit x y

digit_or : (x : ℕ) → x < 4 → (y : ℕ) → y < 4 → AtDigits x y
unfolding join_digit
digit_or =
    below4 (λ (x : ℕ). (y : ℕ) → y < 4 → AtDigits x y)
    (below4 (AtDigits 0) refl refl refl refl)
    (below4 (AtDigits 1) refl refl refl refl)
    (below4 (AtDigits 2) refl refl refl refl)
    (below4 (AtDigits 3) refl refl refl refl)

pub join_digit_lt : (x y : ℕ) → x < 4 → y < 4 → join_digit x y < 4
join_digit_lt x y h k = subst (λ (z : ℕ). z < 4) (digit_or x h y k) (or_lt 2 x y h k)

pub join_lt : (p a b : ℕ) → join p a b < 4 ^ p
unfolding join
join_lt zero a b = omega arith
join_lt (suc p) a b = omega (arith, join_lt p (a / 4) (b / 4), join_digit_lt (a % 4) (b % 4) (mod-lt a (lit< tt)) (mod-lt b (lit< tt)))

-- the empty label yields to any
pub join_none : (p b : ℕ) → b < 4 ^ p → join p 0 b ≡ b
unfolding join join_digit
join_none zero b h = omega arith
join_none (suc p) b h = let e : join p 0 (b / 4) ≡ b / 4 = join_none p (b / 4) (quarter_lt p b h) in omega arith

-- joining two labels is `|`
pub or_join : (p a b : ℕ) → a < 4 ^ p → b < 4 ^ p → bit_or a b ≡ join p a b
unfolding join
or_join zero a b ha hb =
    let ea : a ≡ 0 = omega arith in
    let eb : b ≡ 0 = omega arith in
    ap₂ bit_or ea eb
or_join (suc p) a b ha hb =
    ap₂ bit_or (sym (div-add-mod' a 4)) (sym (div-add-mod' b 4))
    ∙ or_block 2 (a / 4) (b / 4) (a % 4) (b % 4) (mod-lt a (lit< tt)) (mod-lt b (lit< tt))
    ∙ ap₂ (λ (x y : ℕ). x * 4 + y)
    (or_join p (a / 4) (b / 4) (quarter_lt p a ha) (quarter_lt p b hb))
    (digit_or (a % 4) (mod-lt a (lit< tt)) (b % 4) (mod-lt b (lit< tt)))
    ∙ omega arith

-- ---- plain labels
pub plain_none : (q : ℕ) → plain q 0 ≡ true
unfolding plain
plain_none zero = refl
plain_none (suc q) = plain_none q

-- digits above p are absent, so looking at more of them changes nothing
pub plain_more : (p q a : ℕ) → p ≤ q → a < 4 ^ p → plain q a ≡ plain p a
unfolding plain
plain_more zero q a h k = let e : a ≡ 0 = omega arith in rw e (plain_none q)
plain_more (suc p) zero a h k = absurd (omega arith)
plain_more (suc p) (suc q) a h k =
    ap (λ (b : Bool). not (eqb (a % 4) 3) && b) (plain_more p q (a / 4) (omega arith) (quarter_lt p a k))
