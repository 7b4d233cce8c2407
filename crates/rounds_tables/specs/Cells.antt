-- The two tests that end the rounds (8.3), of any lists of cells.
use Rattle.std.specs.Prelude.{Bool, true, false, ◌&&◌, ◌||◌, List, [], ◌∷◌, ℕ, ltb, eqb}

-- 8.3: two tables have the same cells
abbrev pub same : List ℕ → List ℕ → Bool
same [] [] = true
same [] (y ∷ ys) = false
same (x ∷ xs) [] = false
same (x ∷ xs) (y ∷ ys) = eqb x y && same xs ys

-- 8.3: some cell is above 0
abbrev pub any_above : List ℕ → Bool
any_above [] = false
any_above (x ∷ xs) = ltb 0 x || any_above xs
