-- For inner contracts only: what the functions that make a round are lent. Nothing here is to be believed.
use Rattle.std.specs.Prelude.{◌≡◌, Bool, List, ◌⊎◌, ℕ, ◌+◌, ◌*◌, ◌≤◌, ◌<◌, ◌^◌, length, get_or, take}
use Rattle.plan.specs.Label.{Marks}
use Rattle.plan.specs.Plan.{Plan, cells}
use Rattle.plan.specs.Layout.{plan_of}
use Rattle.plan.specs.Horizons.{plan_with}
use Rattle.plan.specs.Refusal.{Accepted}
use Rattle.rules.specs.Tables.{next}
use Rattle.rules_fill.specs.Parts.{part, AtMost}
use Rattle.rules_fill.specs.Filling.{FillNumbers}
use Rattle.rules_rows.specs.declared.rows.Rows.{Rows}
use Rattle.rules_refill.specs.Lists.{Lists}
use Rattle.rules_refill.specs.Lent.{NoneOver}
use Rattle.rounds_points.specs.PointSets.{In}

-- an accepted plan, the marks, a horizon no shorter than the plan's own, and two tables that have all cells
pub record Ready (plan marks : List ℕ) (horizon : ℕ) (first second : List ℕ) : Type 0 where
  pub accepted : Accepted plan
  pub marked : Marks marks
  pub horizon_far : (plan_of plan).horizon ≤ horizon
  pub long_first : cells (plan_of plan) ≤ length first
  pub long_second : cells (plan_of plan) ≤ length second

-- a point outside the set keeps its cells in the round from the table A
pub record Unaffected (P : Plan) (A : List ℕ) (set : ℕ) : Type 0 where
  pub keeps : (x : ℕ) → x < P.points → (In set x → ⊥) → part P x (next P A) ≡ part P x A

-- none of the points has notes
pub record NoNotes (points : ℕ) (noted : List ℕ) : Type 0 where
  pub long : points ≤ length noted
  pub none : (y : ℕ) → y < points → get_or noted y 0 ≡ 0

-- for a round from raised cells: waits to which a duration can be added in 32 bits, the same cells in both tables, the plan's rows, the lists of lines and
-- raised places, room for notes, and a set of points: the others keep their cells
pub record RoundLent (plan marks : List ℕ) (horizon : ℕ) (first second lists counts : List ℕ) (rows : Rows) (notes noted : List ℕ) (w mask set : ℕ) (over : Bool) : Type 0 where
  pub ready : Ready plan marks horizon first second
  pub bound : AtMost 4000000000 (take (cells (plan_of plan)) first)
  pub same_cells : take (cells (plan_of plan)) second ≡ take (cells (plan_of plan)) first
  pub rows_are : rows.plan.now ≡ plan
  pub numbers : FillNumbers plan w mask
  pub lists_are : Lists (plan_with plan horizon) (take (cells (plan_of plan)) first) lists counts
  pub none_over : NoneOver (plan_with plan horizon) (take (cells (plan_of plan)) first) lists counts over
  pub notes_long : cells (plan_of plan) ≤ length notes
  pub no_notes : NoNotes (plan_of plan).points noted
  pub set_below : set < 2 ^ (plan_of plan).points
  pub unaffected : Unaffected (plan_with plan horizon) (take (cells (plan_of plan)) first) set

-- ---- for the comparison of two tables, w cells for each of n points
-- outside the set of points they have the same cells
pub record SameOutside (n w : ℕ) (A B : List ℕ) (set : ℕ) : Type 0 where
  pub cell : (y t : ℕ) → y < n → t < w → (In set y → ⊥) → get_or A (y * w + t) 0 ≡ get_or B (y * w + t) 0

-- k cells of point x are compared: all w, or none of a point outside the set
pub record Compared (set x w k : ℕ) : Type 0 where
  pub all_or_none : (k ≡ w) ⊎ ((k ≡ 0) × (In set x → ⊥))
