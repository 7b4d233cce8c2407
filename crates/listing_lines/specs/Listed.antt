-- The listing of a broken plan: its lines (10.1), and the 16-bit table afterwards (10.8).
use Rattle.std.specs.Prelude.{◌≡◌, Bool, cond, List, [], ◌∷◌, ◌++◌, map, ℕ, zero, suc, ◌/◌, ◌%◌, ltb, eqb, get_or}
use Rattle.plan.specs.Plan.{Plan, width, cells}
use Rattle.rules.specs.declared.Line.{Line}
use Rattle.rules.specs.Lines.{below, cell_of, line_at}
use Rattle.rounds_making.specs.Rounds.{table_from, zeros}
use Rattle.rounds_making.specs.Outcomes.{broken, run_outcome}

-- 8.2: table(r) of the check
abbrev pub table : Plan → ℕ → List ℕ
table P r = table_from P (zeros P) r

-- 10.1: the plan breaks in round r
pub record BreaksIn (P : Plan) (r : ℕ) : Type 0 where
  pub breaks : run_outcome P (zeros P) r ≡ broken r

-- 10.1: a round raised cell c: it is above what it was
abbrev pub is_raised : List ℕ → List ℕ → ℕ → Bool
is_raised T U c = ltb (get_or T c 0) (get_or U c 0)

-- 10.1: the line of cell c, if a round from T to U raised it
unfoldable pub cell_lines : Plan → List ℕ → List ℕ → ℕ → List Line
cell_lines P T U c = cond (is_raised T U c) (line_at P U c ∷ []) []

-- 10.1: the lines of the cells below n that a round from T to U raised, by cell
unfoldable pub raised_lines : Plan → List ℕ → List ℕ → ℕ → List Line
raised_lines P T U zero = []
raised_lines P T U (suc c) = raised_lines P T U c ++ cell_lines P T U c

-- 10.1: the lines of rounds 1 to r, by round
unfoldable pub lines_to : Plan → ℕ → List Line
lines_to P zero = []
lines_to P (suc r) = lines_to P r ++ raised_lines P (table P r) (table P (suc r)) (cells P)

-- 10.1: the lowest of the n cells from c on that a round from T to U raised
unfoldable pub lowest_raised : List ℕ → List ℕ → ℕ → ℕ → ℕ
lowest_raised T U c zero = c
lowest_raised T U c (suc n) = cond (is_raised T U c) c (lowest_raised T U (suc c) n)

-- 10.1: the lowest of Z's cells that the round after r raised
abbrev pub last_cell : Plan → ℕ → ℕ
last_cell P r = lowest_raised (table P r) (table P (suc r)) 0 (width P)

-- 10.1: the lines of a plan that breaks in the round after r: those of the rounds before, and last the lowest of Z's cells
unfoldable pub listing_lines : Plan → ℕ → List Line
listing_lines P zero = []
listing_lines P (suc r) = lines_to P r ++ (line_at P (table P (suc r)) (last_cell P r) ∷ [])

-- ---- the 16-bit table
-- 10.8: the number of the last of some lines, numbered from i on, that belongs to cell c; v if none does
abbrev pub last_number : Plan → ℕ → List Line → ℕ → ℕ → ℕ
last_number P c [] i v = v
last_number P c (l ∷ ls) i v = last_number P c ls (suc i) (cond (eqb (cell_of P l) c) i v)

-- 10.8: the point of a starting cell, and 0 elsewhere
abbrev pub start_number : Plan → ℕ → ℕ
start_number P c = cond (eqb (c % width P) 0) (c / width P) 0

-- 10.8: n + i for the last line i that belongs to cell c; its starting number where none does
unfoldable pub index_at : Plan → List Line → ℕ → ℕ
index_at P ls c = last_number P c ls P.points (start_number P c)

-- 10.8: the entries of all cells
unfoldable pub index_table : Plan → List Line → List ℕ
index_table P ls = map (index_at P ls) (below (cells P))
