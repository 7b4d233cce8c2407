-- For inner contracts only: what the function that makes rounds from zeros is lent, and what it leaves there. Nothing here is to be believed.
use Rattle.std.specs.Prelude.{◌≡◌, List, ◌++◌, ℕ, ◌*◌, ◌≤◌, length, drop}
use Rattle.plan.specs.Moments.{Moments}
use Rattle.plan.specs.Plan.{Plan, cells}
use Rattle.plan.specs.Layout.{plan_of}
use Rattle.plan.specs.Refusal.{most_seconds, Accepted}
use Rattle.rounds_making.specs.Rounds.{zeros}
use Rattle.rounds_making.specs.Outcomes.{Outcome, run_outcome, run_table}

-- what rounds from zeros are lent: an accepted plan, a horizon from the plan's own up to the longest of any plan, and two tables that have all cells
pub record ZerosLent (plan : List ℕ) (horizon : ℕ) (first second : List ℕ) : Type 0 where
  pub accepted : Accepted plan
  pub horizon_far : (plan_of plan).horizon ≤ horizon
  pub horizon_near : horizon ≤ 32 * most_seconds
  pub long_first : cells (plan_of plan) ≤ length first
  pub long_second : cells (plan_of plan) ≤ length second

-- rounds from zeros up to a limit ended with an outcome, and left the last round's table in the cells of both tables
pub record RanFromZeros (P : Plan) (limit : ℕ) (first second : Moments) (o : Outcome) : Type 0 where
  pub outcome_is : o ≡ run_outcome P (zeros P) limit
  pub first_is : first.exit ≡ run_table P (zeros P) limit ++ drop (cells P) first.entry
  pub second_is : second.exit ≡ run_table P (zeros P) limit ++ drop (cells P) second.entry
  pub first_length : length first.exit ≡ length first.entry
  pub second_length : length second.exit ≡ length second.entry
