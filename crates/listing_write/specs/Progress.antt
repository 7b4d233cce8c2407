-- For inner contracts only: what the functions that count and write a listing are lent and leave. Nothing here is to be believed.
use Rattle.std.specs.Prelude.{◌≡◌, List, ◌++◌, ℕ, suc, ◌+◌, ◌≤◌, ◌<◌, min, T as Is, length, get_or}
use Rattle.std.specs.Borrow.{Bor, MutBor}
use denote.Triple.Both.{Both}
use Rattle.plan.specs.Label.{Marks}
use Rattle.plan.specs.Plan.{Plan, cells}
use Rattle.plan.specs.Layout.{plan_of}
use Rattle.plan.specs.Refusal.{Accepted}
use Rattle.rules.specs.declared.Line.{Line}
use Rattle.rules.specs.Lines.{line_at, starting_line}
use Rattle.rules.specs.Tables.{next}
use Rattle.rules_ground.specs.Grounds.{holds_line}
use Rattle.replay.specs.Listings.{line_count, head_line, parent_line}
use Rattle.replay.specs.Derives.{LineDerives}
use Rattle.listing_write.specs.Entry.{SameFields}
use Rattle.listing_lines.specs.Listed.{table, raised_lines, cell_lines, index_table, BreaksIn}

-- ---- lines
-- the lines of all cells that a round from T to U raised
abbrev pub all_raised : Plan → List ℕ → List ℕ → List Line
all_raised P T U = raised_lines P T U (cells P)

-- the lines of the round from T
abbrev pub round_lines : Plan → List ℕ → List Line
round_lines P T = all_raised P T (next P T)

-- a count n and the lines ks, counted as far as 4,097
abbrev pub count_with : ℕ → List Line → ℕ
count_with n ks = min 4097 (n + length ks)

-- ---- what is lent
-- an accepted plan, the marks, its horizon, and tables of just its cells
pub record Exact (plan marks : List ℕ) (horizon : ℕ) (first second : List ℕ) : Type 0 where
  pub accepted : Accepted plan
  pub marked : Marks marks
  pub horizon_is : horizon ≡ (plan_of plan).horizon
  pub first_length : length first ≡ cells (plan_of plan)
  pub second_length : length second ≡ cells (plan_of plan)

-- the rounds are to be made from zeros, and the plan breaks in the one after them
pub record RoundsLent (plan marks : List ℕ) (horizon : ℕ) (first second : List ℕ) (rounds : ℕ) : Type 0 where
  pub exact : Exact plan marks horizon first second
  pub breaks : BreaksIn (plan_of plan) (suc rounds)
  pub first_is : first ≡ table (plan_of plan) 0

-- the numbers of all cells that a round raised fit 16 bits
pub record NumbersReady (plan first second index : List ℕ) (at : ℕ) : Type 0 where
  pub accepted : Accepted plan
  pub first_length : length first ≡ cells (plan_of plan)
  pub second_length : length second ≡ cells (plan_of plan)
  pub index_length : length index ≡ cells (plan_of plan)
  pub few : at + length (all_raised (plan_of plan) first second) ≤ 4096

-- the 16-bit table has for every cell that holds a line of T the number of that line, a starting line or one of the first `at` lines written
pub record CellsNumbered (P : Plan) (T I out : List ℕ) (at : ℕ) : Type 0 where
  pub sized : length I ≡ cells P
  pub in_lines : (c : ℕ) → c < cells P → Is (holds_line P T c) → get_or I c 0 < P.points + at
  pub is_line : (c : ℕ) → c < cells P → Is (holds_line P T c) → parent_line P out (get_or I c 0) ≡ line_at P T c

-- ---- what is left
-- lines ks were written from line `at` on, each derives, and the lines before stay
pub record Appended (P : Plan) (at : ℕ) (ks : List Line) (out out' : List ℕ) : Type 0 where
  pub as_long : length out' ≡ length out
  pub counted : line_count out' ≡ line_count out
  pub kept : (j : ℕ) → j < at → SameFields out out' j
  pub heads : (j : ℕ) → j < length ks → head_line out' (at + j) ≡ get_or ks j (starting_line 0)
  pub derive : (j : ℕ) → j < length ks → LineDerives P out' (at + j)

-- the 16-bit table takes the numbers of lines ks, which come after `at` lines
pub record Numbered (P : Plan) (at : ℕ) (ks : List Line) (I I' : List ℕ) : Type 0 where
  pub numbers : (ls : List Line) → length ls ≡ at → I ≡ index_table P ls → I' ≡ index_table P (ls ++ ks)

-- the same where cell c takes number i, if a round from T to U raised it
abbrev pub CellNumbered : List ℕ → List ℕ → ℕ → ℕ → List ℕ → List ℕ → Type 0
CellNumbered T U i c I I' = (P : Plan) (at : ℕ) → i ≡ P.points + at → c < cells P → Numbered P at (cell_lines P T U c) I I'

-- ---- the two of what is lent to a call
abbrev pub Appends : {X : Type 0} → Both (Bor (List ℕ)) X → ℕ → List Line → Both (MutBor (List ℕ)) (MutBor (List ℕ)) → Type 0
Appends plan at ks out = Appended (plan_of plan.entry.now) at ks out.entry.now out.exit.now

abbrev pub Numbers : {X : Type 0} → Both (Bor (List ℕ)) X → ℕ → List Line → Both (MutBor (List ℕ)) (MutBor (List ℕ)) → Type 0
Numbers plan at ks index = Numbered (plan_of plan.entry.now) at ks index.entry.now index.exit.now
