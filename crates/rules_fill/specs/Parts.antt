-- For inner contracts only: cells of a table and of a part of it, what a fill is lent and makes. Nothing here is to be believed.
use Rattle.std.specs.Prelude.{List, ◌++◌, ℕ, ◌*◌, ◌≤◌, get_or, take, drop}
use Rattle.plan.specs.Plan.{Plan, width, cells}
use Rattle.rules.specs.Tables.{next}

-- the next table, from the one in the first cells of a lent table
abbrev pub next_cells : Plan → List ℕ → List ℕ
next_cells P F = next P (take (cells P) F)

-- the cells of point x in a table that has w for each point
abbrev pub point_cells : ℕ → ℕ → List ℕ → List ℕ
point_cells w x T = take w (drop (x * w) T)

-- the same in a table of the plan
abbrev pub part : Plan → ℕ → List ℕ → List ℕ
part P x T = point_cells (width P) x T

-- no cell is above b
pub record AtMost (b : ℕ) (table : List ℕ) : Type 0 where
  pub cell : (c : ℕ) → get_or table c 0 ≤ b

-- the first n entries of one list laid over those of another
unfoldable pub laid_over : ℕ → List ℕ → List ℕ → List ℕ
laid_over n S B = take n S ++ drop n B

-- a part with the cells of point x in the table that follows F; what lies past them stays
abbrev pub next_part : Plan → ℕ → List ℕ → List ℕ → List ℕ
next_part P x F B = part P x (next_cells P F) ++ drop (width P) B
