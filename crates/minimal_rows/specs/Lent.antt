-- For inner contracts only: what trials have in common, what they are lent, and what bounds the loop over the rows. Nothing here is to be believed.
use Rattle.std.specs.Prelude.{◌≡◌, List, ℕ, ◌≤◌, ◌<◌, length}
use Rattle.plan.specs.Plan.{Plan, cells}
use Rattle.plan.specs.Layout.{plan_of}
use Rattle.plan.specs.Refusal.{Accepted}
use Rattle.rounds.specs.Meaning.{enough_rounds}

-- an accepted plan, its horizon, and the number of rounds that is enough for it
pub record Trying (plan : List ℕ) (horizon limit : ℕ) : Type 0 where
  pub accepted : Accepted plan
  pub horizon_is : horizon ≡ (plan_of plan).horizon
  pub limit_is : limit ≡ enough_rounds (plan_of plan)

-- two tables that have all cells
pub record TablesLent (P : Plan) (first second : List ℕ) : Type 0 where
  pub long_first : cells P ≤ length first
  pub long_second : cells P ≤ length second

-- and a mark for each edge
pub record MarksLent (P : Plan) (first second marks : List ℕ) : Type 0 where
  pub tables : TablesLent P first second
  pub long_marks : P.edges ≤ length marks

-- the next row, the row after the last one that was needed, and how many rows to try at once
pub record Within (next start count : ℕ) : Type 0 where
  pub start_before : start ≤ next
  pub next_few : next ≤ 128
  pub some_rows : 0 < count
  pub count_few : count ≤ 128
