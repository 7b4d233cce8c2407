-- For inner contracts only: what the functions that make rounds are lent, and what they leave there. Nothing here is to be believed.
use Rattle.std.specs.Prelude.{◌≡◌, Bool, true, List, ◌++◌, ℕ, length, take, drop}
use Rattle.std.proofs.Math.Option.{none}
use Rattle.plan.specs.Plan.{Plan, cells}
use Rattle.plan.specs.Layout.{plan_of}
use Rattle.plan.specs.Horizons.{plan_with}
use Rattle.rules_fill.specs.Parts.{AtMost}
use Rattle.rounds_tables.specs.Ready.{Ready}
use Rattle.rounds_making.specs.Rounds.{table_from, zeros, rounds_to}
use Rattle.rounds_making.specs.Outcomes.{Outcome, run_outcome, run_table}

-- the waits of the rounds from T leave room for a duration in 32 bits while none stopped
pub record RoomFrom (P : Plan) (T : List ℕ) : Type 0 where
  pub room : (r : ℕ) → rounds_to P T r ≡ none → AtMost 4000000000 (table_from P T r)

-- what rounds from a table are lent: two tables with the same cells; zeros, where that is said
pub record RunLent (plan marks : List ℕ) (horizon : ℕ) (first second : List ℕ) (none : Bool) : Type 0 where
  pub ready : Ready plan marks horizon first second
  pub room_from : RoomFrom (plan_with plan horizon) (take (cells (plan_of plan)) first)
  pub same_cells : take (cells (plan_of plan)) second ≡ take (cells (plan_of plan)) first
  pub zeros_are : none ≡ true → take (cells (plan_of plan)) first ≡ zeros (plan_of plan)

-- rounds from the cells of F up to a limit ended with an outcome, and left the last round's table in the cells of both tables
pub record Ran (P : Plan) (F G : List ℕ) (limit : ℕ) (o : Outcome) (F' G' : List ℕ) : Type 0 where
  pub outcome_is : o ≡ run_outcome P (take (cells P) F) limit
  pub first_is : F' ≡ run_table P (take (cells P) F) limit ++ drop (cells P) F
  pub second_is : G' ≡ run_table P (take (cells P) F) limit ++ drop (cells P) G
  pub first_length : length F' ≡ length F
  pub second_length : length G' ≡ length G
