-- The sum of a table's cells: it is bounded by a bound on the cells, and a table with no cell lower than another's, and not the same, has a larger one.
use mathlib.Core.Path.{◌≡◌, refl}
use mathlib.Core.Bool.{Bool, true, false, ◌&&◌, true≢false}
use mathlib.Core.Logic.{◌≢◌}
use mathlib.Core.List.{List, [], ◌∷◌}
use Prim.Native.Nat.{ℕ, suc, ◌+◌, ◌*◌, ◌≤◌, ◌<◌}
use native.Mathlib.Nat.{le_refl}
use native.Mathlib.Omega.{arith}
use lib.Dec.{eqb}
use lib.ListN.{length, get_or}
use borrow.Author.Tests.{eqb-false}
use Rattle.rounds_tables.specs.Cells.{same}

pub sum : List ℕ → ℕ
sum [] = 0
sum (x ∷ xs) = x + sum xs

-- no cell of B is lower
abbrev pub NoLower : List ℕ → List ℕ → Type 0
NoLower A B = (c : ℕ) → c < length A → get_or A c 0 ≤ get_or B c 0

sum_le : (A B : List ℕ) → length A ≡ length B → NoLower A B → sum A ≤ sum B
unfolding sum
sum_le [] [] e h = le_refl 0
sum_le [] (y ∷ ys) e h = absurd (omega arith)
sum_le (x ∷ xs) [] e h = absurd (omega arith)
sum_le (x ∷ xs) (y ∷ ys) e h = omega (arith, h 0 (omega arith), sum_le xs ys (omega arith) (λ c k. h (suc c) (omega arith)))

pub sum_lt : (A B : List ℕ) → length A ≡ length B → NoLower A B → same A B ≡ false → sum A < sum B
unfolding sum
sum_lt [] [] e h n = absurd (true≢false n)
sum_lt [] (y ∷ ys) e h n = absurd (omega arith)
sum_lt (x ∷ xs) [] e h n = absurd (omega arith)
sum_lt (x ∷ xs) (y ∷ ys) e h n = go (sum_lt xs ys (omega arith) (λ c k. h (suc c) (omega arith))) (eqb x y) refl n
  where
    go : (same xs ys ≡ false → sum xs < sum ys) → (b : Bool) → eqb x y ≡ b → b && same xs ys ≡ false → x + sum xs < y + sum ys
    go r true q n = omega (arith, h 0 (omega arith), r n)
    go r false q n = let ne : x ≢ y = eqb-false x y q in omega (arith, h 0 (omega arith), sum_le xs ys (omega arith) (λ c k. h (suc c) (omega arith)))

pub sum_bound : (A : List ℕ) (b : ℕ) → ((c : ℕ) → c < length A → get_or A c 0 ≤ b) → sum A ≤ length A * b
unfolding sum
sum_bound [] b h = omega arith
sum_bound (x ∷ xs) b h = omega (arith, h 0 (omega arith), sum_bound xs b (λ c k. h (suc c) (omega arith)))
