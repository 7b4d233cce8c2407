-- Laws of a loop over a plan's rows that looks for a row where a test fails, or for one where it holds. Assumes nothing.
use mathlib.Core.Path.{◌≡◌, refl, sym, ap, ◌∙◌}
use mathlib.Core.Bool.{Bool, true, false, not, and-false}
use mathlib.Core.Logic.{⊎_elim}
use Prim.Native.Nat.{ℕ, zero, suc, ◌+◌, ◌≤◌, ◌<◌}
use native.Mathlib.Nat.{eq-or-lt_of_le, le_of_suc-le-suc, le_antisymm}
use native.Mathlib.Numerals.{add-one}
use native.Mathlib.Omega.{arith}
use borrow.Author.Tests.{eq-eqb, ne_eqb}
use lib.Dec.{eqb}
use Rattle.plan.specs.Refusal.{every, some, differs}

-- ---- a called test, whose value is r
pub denied : {r b : Bool} → r ≡ b → r ≡ false → b ≡ false
denied e t = sym e ∙ t

pub granted : {r b : Bool} → r ≡ b → r ≡ true → b ≡ true
granted e t = sym e ∙ t

-- ---- a test of each row: the loop leaves at the first row whose test gives false
every_miss : (f : ℕ → Bool) (n i : ℕ) → i < n → f i ≡ false → every f n ≡ false
unfolding every
every_miss f zero i l e = absurd (omega arith)
every_miss f (suc n) i l e =
    ⊎_elim (λ (q : i ≡ n). rw (← q, e, and-false)) (λ (m : i < n). rw (every_miss f n i m e)) (eq-or-lt_of_le (le_of_suc-le-suc l))

-- the test f holds of the rows below i, of n rows
pub record Passed (f : ℕ → Bool) (n i : ℕ) : Type 0 where
  pub within : i ≤ n
  pub held : every f i ≡ true

module _ {f : ℕ → Bool} {n : ℕ} where
  pub passed_none : Passed f n 0
  unfolding every
  passed_none = record { within = omega arith; held = refl }

  pub passed_more : {i : ℕ} {r : Bool} → Passed f n i → i < n → r ≡ f i → r ≡ true → Passed f n (i + 1)
  unfolding every
  passed_more p l e t = record { within = omega arith; held = rw (add-one, p.held) (granted e t) }

  pub passed_all : {i : ℕ} → Passed f n i → n ≤ i → true ≡ every f n
  passed_all p l = sym p.held ∙ ap (every f) (le_antisymm p.within l)

  pub passed_not : {i : ℕ} {r : Bool} → Passed f n i → i < n → r ≡ f i → r ≡ false → false ≡ every f n
  passed_not {i} p l e t = sym (every_miss f n i l (denied e t))

-- the numbers f 0 .. f (i - 1), of n rows, are all other than x
pub record Apart (f : ℕ → ℕ) (x n i : ℕ) : Type 0 where
  pub passed : Passed (λ k. not (eqb (f k) x)) n i

module _ {f : ℕ → ℕ} {x n : ℕ} where
  pub apart_none : Apart f x n 0
  apart_none = record { passed = passed_none }

  pub apart_more : {i r : ℕ} → Apart f x n i → i < n → r ≡ f i → (r ≡ x → ⊥) → Apart f x n (i + 1)
  apart_more a l e h = record { passed = passed_more a.passed l refl (rw (← e, ne_eqb _ _ h)) }

  pub apart_all : {i : ℕ} → Apart f x n i → n ≤ i → true ≡ differs f x n
  unfolding differs
  apart_all a l = passed_all a.passed l

  pub apart_not : {i r : ℕ} → Apart f x n i → i < n → r ≡ f i → r ≡ x → false ≡ differs f x n
  unfolding differs
  apart_not a l e h = passed_not a.passed l refl (rw (← e, eq-eqb _ _ h))

-- the test f holds of none of the rows below i, of n rows: the loop leaves at the first row whose test gives true
pub record Missed (f : ℕ → Bool) (n i : ℕ) : Type 0 where
  pub passed : Passed (λ k. not (f k)) n i

module _ {f : ℕ → Bool} {n : ℕ} where
  pub missed_none : Missed f n 0
  missed_none = record { passed = passed_none }

  pub missed_more : {i : ℕ} {r : Bool} → Missed f n i → i < n → r ≡ f i → r ≡ false → Missed f n (i + 1)
  missed_more m l e h = record { passed = passed_more m.passed l refl (rw (← e, h)) }

  pub missed_all : {i : ℕ} → Missed f n i → n ≤ i → false ≡ some f n
  unfolding some
  missed_all m l = ap not (passed_all m.passed l)

  pub missed_not : {i : ℕ} {r : Bool} → Missed f n i → i < n → r ≡ f i → r ≡ true → true ≡ some f n
  unfolding some
  missed_not m l e h = ap not (passed_not m.passed l refl (rw (← e, h)))
