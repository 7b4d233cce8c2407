-- The digits of a number in any base.
use mathlib.Core.Path.{◌≡◌, refl, sym, ap, ◌∙◌}
use Prim.Native.Nat.{ℕ, zero, suc, ◌+◌, ◌-◌, ◌*◌, ◌/◌, ◌%◌, ◌^◌, ◌≤◌, ◌<◌}
use native.Mathlib.Nat.{pow-succ', pow-zero, div-one, div-div-eq-div-mul, mod-lt, mod-eq_of_lt, div-eq_of_lt, add-mul-div_left, add-mul-mod_self_left, div-add-mod', div-mul-le_self, mod-le, mul-le-mul_right, le_trans}
use native.Mathlib.Omega.{arith}

module _ (b : ℕ) (two : 1 < b) where
  unfoldable pub digit_of : ℕ → ℕ → ℕ
  digit_of a j = a / b ^ j % b

  pub digit_zero : (a : ℕ) → digit_of a 0 ≡ a % b
  unfolding digit_of
  digit_zero a = rw (pow-zero, div-one)

  pub digit_up : (a j : ℕ) → digit_of a (suc j) ≡ digit_of (a / b) j
  unfolding digit_of
  digit_up a j = rw (pow-succ', ← div-div-eq-div-mul a b (b ^ j))

  -- the digits of a number that is given by its lowest digit and the rest
  pub lowest_digit : (x y : ℕ) → x < b → digit_of (x + b * y) 0 ≡ x
  lowest_digit x y h = digit_zero (x + b * y) ∙ add-mul-mod_self_left x b y ∙ mod-eq_of_lt h

  pub higher_digit : (x y j : ℕ) → x < b → digit_of (x + b * y) (suc j) ≡ digit_of y j
  higher_digit x y j h =
      let e : (x + b * y) / b ≡ y = add-mul-div_left x y {y = b} (omega arith) ∙ ap (λ (z : ℕ). z + y) (div-eq_of_lt h) ∙ omega arith in
      digit_up (x + b * y) j ∙ ap (λ (z : ℕ). digit_of z j) e

  -- a number without its digit j
  unfoldable pub without : ℕ → ℕ → ℕ
  without a j = a - digit_of a j * b ^ j

  pub digit_fits : (a j : ℕ) → digit_of a j * b ^ j ≤ a
  unfolding digit_of
  digit_fits a j = le_trans (mul-le-mul_right (b ^ j) (mod-le (a / b ^ j) b)) (div-mul-le_self a (b ^ j))

  without_zero : (a : ℕ) → without a 0 ≡ 0 + b * (a / b)
  unfolding without
  without_zero a = let e : digit_of a 0 * b ^ 0 ≡ a % b = rw (digit_zero, pow-zero) (omega arith) in omega (arith, div-add-mod' a b)

  without_up : (a j : ℕ) → without a (suc j) ≡ a % b + b * without (a / b) j
  unfolding without
  without_up a j =
      let c = digit_of (a / b) j * b ^ j in
      let e : digit_of a (suc j) * b ^ suc j ≡ b * c = rw (digit_up, pow-succ') (omega arith) in
      let f : b * (a / b) ≡ b * ((a / b - c) + c) = ap (λ (x : ℕ). b * x) (omega (arith, digit_fits (a / b) j)) in
      omega (arith, div-add-mod' a b)

  -- the other digits stay
  pub others : (a j k : ℕ) → (k ≡ j → ⊥) → digit_of (without a j) k ≡ digit_of a k
  others a zero zero n = absurd (n refl)
  others a zero (suc k) n = ap (λ (x : ℕ). digit_of x (suc k)) (without_zero a) ∙ higher_digit 0 (a / b) k (omega arith) ∙ sym (digit_up a k)
  others a (suc j) zero n = ap (λ (x : ℕ). digit_of x 0) (without_up a j) ∙ lowest_digit (a % b) (without (a / b) j) (mod-lt a (omega arith)) ∙ sym (digit_zero a)
  others a (suc j) (suc k) n =
      ap (λ (x : ℕ). digit_of x (suc k)) (without_up a j) ∙ higher_digit (a % b) (without (a / b) j) k (mod-lt a (omega arith))
      ∙ others (a / b) j k (λ e. n (ap suc e)) ∙ sym (digit_up a k)

  -- the digit itself goes
  pub itself : (a j : ℕ) → digit_of (without a j) j ≡ 0
  itself a zero = ap (λ (x : ℕ). digit_of x 0) (without_zero a) ∙ lowest_digit 0 (a / b) (omega arith)
  itself a (suc j) = ap (λ (x : ℕ). digit_of x (suc j)) (without_up a j) ∙ higher_digit (a % b) (without (a / b) j) j (mod-lt a (omega arith)) ∙ itself (a / b) j
