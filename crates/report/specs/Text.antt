-- The text of an outcome and a table (13.3).
use Rattle.std.specs.Prelude.{Bool, true, false, cond, List, [], ◌∷◌, ◌++◌, ℕ, ◌+◌, ◌*◌, get_or}
use Rattle.plan.specs.Plan.{Plan, width}
use Rattle.rounds_making.specs.Outcomes.{Outcome, kept, broken, spent, refused}
use Rattle.text.specs.Decimal.{decimal}
use Rattle.text.specs.Joined.{joined}

-- 13.3: a word with the space after it, a number, and a newline
unfoldable pub numbered_line : List ℕ → ℕ → List ℕ
numbered_line word n = word ++ (decimal n ++ (10 ∷ []))

-- 13.3: `kept R`, `broken R` or `refused N`; `spent R` is here for the check's fourth answer, which the program's limit rules out
unfoldable pub first_line : Outcome → List ℕ
first_line (kept r) = numbered_line (107 ∷ 101 ∷ 112 ∷ 116 ∷ 32 ∷ []) r
first_line (broken r) = numbered_line (98 ∷ 114 ∷ 111 ∷ 107 ∷ 101 ∷ 110 ∷ 32 ∷ []) r
first_line (spent r) = numbered_line (115 ∷ 112 ∷ 101 ∷ 110 ∷ 116 ∷ 32 ∷ []) r
first_line (refused n) = numbered_line (114 ∷ 101 ∷ 102 ∷ 117 ∷ 115 ∷ 101 ∷ 100 ∷ 32 ∷ []) n

-- 13.3: one space, and the cell that stands c behind a point's first
unfoldable pub cell_text : List ℕ → ℕ → ℕ → List ℕ
cell_text T start c = 32 ∷ decimal (get_or T (start + c) 0)

-- 13.3: the line of a point: its number and its w cells in order
unfoldable pub point_line : List ℕ → ℕ → ℕ → List ℕ
point_line T w x = decimal x ++ (joined (cell_text T (x * w)) w ++ (10 ∷ []))

abbrev pub is_refused : Outcome → Bool
is_refused (kept r) = false
is_refused (broken r) = false
is_refused (spent r) = false
is_refused (refused n) = true

-- 13.3: the first line and, unless refused, a line for each point
unfoldable pub text_of : Outcome → Plan → List ℕ → List ℕ
text_of o P T = first_line o ++ cond (is_refused o) [] (joined (point_line T (width P)) P.points)
