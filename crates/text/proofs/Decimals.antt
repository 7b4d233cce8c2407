-- Laws of decimals: the digits one by one, and how many there are.
use mathlib.Core.Path.{◌≡◌, refl, sym, ap, ◌∙◌}
use mathlib.Core.List.{List, [], ◌∷◌, ◌++◌}
use Prim.Native.Nat.{ℕ, zero, suc, ◌+◌, ◌*◌, ◌/◌, ◌%◌, ◌^◌, ◌≤◌, ◌<◌}
use native.Mathlib.Decide.{dec_le}
use native.Mathlib.Omega.{arith}
use lib.ListN.{length, length-append}
use borrow.Author.Tests.{lt-ltb, le-ltb}
use Rattle.text.specs.Decimal.{digits, decimal}

digits_one : (k n : ℕ) → n < 10 → digits (suc k) n ≡ (48 + n) ∷ []
unfolding digits
digits_one k n h = rw (lt-ltb n 10 h) refl

digits_two : (k n : ℕ) → 10 ≤ n → digits (suc k) n ≡ digits k (n / 10) ++ ((48 + n % 10) ∷ [])
unfolding digits
digits_two k n h = rw (le-ltb n 10 h) refl

-- a bound on the digits that is high enough does not matter
digits_enough : (a b n : ℕ) → n < a → n < b → digits a n ≡ digits b n
digits_enough zero b n h k = absurd (omega arith)
digits_enough (suc a) zero n h k = absurd (omega arith)
digits_enough (suc a) (suc b) n h k = go (digits_enough a b (n / 10)) (dec_le 10 n)
  where
    go : (n / 10 < a → n / 10 < b → digits a (n / 10) ≡ digits b (n / 10)) → Dec (10 ≤ n) → digits (suc a) n ≡ digits (suc b) n
    go r (yes g) = digits_two a n g ∙ ap (λ (l : List ℕ). l ++ ((48 + n % 10) ∷ [])) (r (omega arith) (omega arith)) ∙ sym (digits_two b n g)
    go r (no g) = digits_one a n (omega arith) ∙ sym (digits_one b n (omega arith))

pub decimal_one : (n : ℕ) → n < 10 → decimal n ≡ (48 + n) ∷ []
unfolding decimal
decimal_one n h = digits_one n n h

pub decimal_more : (n : ℕ) → 10 ≤ n → decimal n ≡ decimal (n / 10) ++ ((48 + n % 10) ∷ [])
unfolding decimal
decimal_more n h = digits_two n n h ∙ ap (λ (l : List ℕ). l ++ ((48 + n % 10) ∷ [])) (digits_enough n (suc (n / 10)) (n / 10) (omega arith) (omega arith))

-- a number below 10 to the k + 1 has at most k + 1 digits
pub decimal_length : (k n : ℕ) → n < 10 ^ suc k → length (decimal n) ≤ suc k
decimal_length zero n h = rw (decimal_one n (omega arith)) (omega arith)
decimal_length (suc k) n h = go (decimal_length k (n / 10)) (dec_le 10 n)
  where
    go : (n / 10 < 10 ^ suc k → length (decimal (n / 10)) ≤ suc k) → Dec (10 ≤ n) → length (decimal n) ≤ suc (suc k)
    go r (yes g) = rw (decimal_more n g, length-append) (omega (arith, r (omega arith)))
    go r (no g) = rw (decimal_one n (omega arith)) (omega arith)

-- and a number from 10 to the k on has at least k + 1
power_some : (k : ℕ) → 1 ≤ 10 ^ k
power_some zero = omega arith
power_some (suc k) = omega (arith, power_some k)

decimal_longer : (k n : ℕ) → 10 ^ k ≤ n → suc k ≤ length (decimal n)
decimal_longer zero n h = go (dec_le 10 n)
  where
    go : Dec (10 ≤ n) → 1 ≤ length (decimal n)
    go (yes g) = rw (decimal_more n g, length-append) (omega arith)
    go (no g) = rw (decimal_one n (omega arith)) (omega arith)
decimal_longer (suc k) n h =
    let g : 10 ≤ n = omega (arith, power_some k) in
    rw (decimal_more n g, length-append) (omega (arith, decimal_longer k (n / 10) (omega arith)))

pub decimal_length_exact : (k n : ℕ) → 10 ^ k ≤ n → n < 10 * 10 ^ k → k + 1 ≡ length (decimal n)
decimal_length_exact k n h g = omega (arith, decimal_length k n (omega arith), decimal_longer k n h)

below_power : (n : ℕ) → n < 10 ^ suc n
below_power zero = omega arith
below_power (suc n) = omega (arith, below_power n)

pub decimal_few : (n : ℕ) → length (decimal n) ≤ n + 1
decimal_few n = omega (arith, decimal_length n n (below_power n))

pub decimal_one_length : (n : ℕ) → n < 10 → length (decimal n) ≡ 1
decimal_one_length n h = ap length (decimal_one n h)
