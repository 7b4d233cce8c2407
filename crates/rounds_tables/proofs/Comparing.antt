-- Laws of the tests that end the rounds.
use mathlib.Core.Path.{◌≡◌, refl, ap}
use mathlib.Core.Bool.{Bool, true, false, ◌&&◌, ◌||◌, true≢false, false≢true}
use mathlib.Core.List.{List, [], ◌∷◌}
use Prim.Native.Nat.{ℕ, zero, suc, ◌<◌}
use native.Mathlib.Omega.{arith}
use lib.Dec.{ltb, eqb}
use lib.ListN.{length, get_or}
use borrow.Author.Tests.{ltb-true, ltb-false, eqb-true, eq-eqb}
use Rattle.std.specs.List.{list_any}
use Rattle.rounds_tables.specs.Cells.{same, any_above}

pub same_eq : (A B : List ℕ) → same A B ≡ true → A ≡ B
same_eq [] [] e = refl
same_eq [] (y ∷ ys) e = absurd (false≢true e)
same_eq (x ∷ xs) [] e = absurd (false≢true e)
same_eq (x ∷ xs) (y ∷ ys) e = go (same_eq xs ys) (eqb x y) refl e
  where
    go : (same xs ys ≡ true → xs ≡ ys) → (b : Bool) → eqb x y ≡ b → b && same xs ys ≡ true → x ∷ xs ≡ y ∷ ys
    go r true q e = λ i. eqb-true x y q i ∷ r e i
    go r false q e = absurd (false≢true e)

same_self : (A : List ℕ) → same A A ≡ true
same_self [] = refl
same_self (x ∷ xs) = rw (eq-eqb x x refl) (same_self xs)

pub eq_same : (A B : List ℕ) → A ≡ B → same A B ≡ true
eq_same A B e = rw (← e) (same_self A)

pub none_above : (A : List ℕ) → any_above A ≡ false → (c : ℕ) → get_or A c 0 ≡ 0
none_above [] e c = refl
none_above (x ∷ xs) e c = go (none_above xs) (ltb 0 x) refl e c
  where
    go : (any_above xs ≡ false → (c : ℕ) → get_or xs c 0 ≡ 0) → (b : Bool) → ltb 0 x ≡ b → b || any_above xs ≡ false → (c : ℕ) → get_or (x ∷ xs) c 0 ≡ 0
    go r true q e c = absurd (true≢false e)
    go r false q e zero = omega (arith, ltb-false 0 x q)
    go r false q e (suc c) = r e c

pub some_above : (A : List ℕ) → any_above A ≡ true → (c : ℕ) × (c < length A) × (0 < get_or A c 0)
some_above [] e = absurd (false≢true e)
some_above (x ∷ xs) e = go (some_above xs) (ltb 0 x) refl e
  where
    go : (any_above xs ≡ true → (c : ℕ) × (c < length xs) × (0 < get_or xs c 0)) → (b : Bool) → ltb 0 x ≡ b → b || any_above xs ≡ true → (c : ℕ) × (c < suc (length xs)) × (0 < get_or (x ∷ xs) c 0)
    go r true q e = (0, omega arith, ltb-true 0 x q)
    go r false q e = let t = r e in (suc t.0, omega arith, t.2)

-- a search among the cells
pub any_above_is : (A : List ℕ) → list_any (λ c. ltb 0 c) A ≡ any_above A
any_above_is [] = refl
any_above_is (x ∷ xs) = ap (λ (b : Bool). ltb 0 x || b) (any_above_is xs)
