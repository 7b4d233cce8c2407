-- For inner contracts only: what filling one point's part from raised cells is lent. Nothing here is to be believed.
use Rattle.std.specs.Prelude.{◌≡◌, Bool, false, ◌⊎◌, List, ℕ, ◌+◌, ◌*◌, ◌≤◌, ◌<◌, length, get_or}
use Rattle.std.specs.Int.Bits.{bit_or}
use Rattle.plan.specs.Label.{Marks}
use Rattle.plan.specs.Plan.{Plan, width, cells}
use Rattle.plan.specs.Layout.{plan_of}
use Rattle.plan.specs.Horizons.{plan_with}
use Rattle.plan.specs.Refusal.{Accepted}
use Rattle.rules_fill.specs.declared.shapes.Propagator.{Propagator}
use Rattle.rules_fill.specs.Shapes.{propagated}
use Rattle.rules_fill.specs.Parts.{AtMost}
use Rattle.rules_fill.specs.Filling.{FillNumbers}
use Rattle.rules_rows.specs.declared.rows.Rows.{Rows}
use Rattle.rules_listed.specs.declared.table.Table.{Table}
use Rattle.rules_refill.specs.Lists.{Raised, Lists}

-- an accepted plan, the marks, a horizon no shorter than the plan's own, a table with waits to which a duration can be added in 32 bits, what is known of
-- it, the plan's rows, the cells of a point, the bits of a label, and a point of the plan
pub record RefillLent (plan marks : List ℕ) (horizon : ℕ) (first lists counts : List ℕ) (rows : Rows) (w mask x : ℕ) : Type 0 where
  pub accepted : Accepted plan
  pub marked : Marks marks
  pub horizon_far : (plan_of plan).horizon ≤ horizon
  pub bound : AtMost 4000000000 first
  pub long_first : cells (plan_of plan) ≤ length first
  pub lists_are : Lists (plan_with plan horizon) first lists counts
  pub rows_are : rows.plan.now ≡ plan
  pub numbers : FillNumbers plan w mask
  pub point_in : x < (plan_of plan).points

-- the same of every point of a plan with n points, for a table that is lent with its lists
pub record RefillOver (plan : List ℕ) (n : ℕ) (marks : List ℕ) (horizon : ℕ) (rows : Rows) (mask : ℕ) (t : Table) : Type 0 where
  pub accepted : Accepted plan
  pub marked : Marks marks
  pub horizon_far : (plan_of plan).horizon ≤ horizon
  pub bound : AtMost 4000000000 t.first.now
  pub long_first : cells (plan_of plan) ≤ length t.first.now
  pub lists_are : ∥ Lists (plan_with plan horizon) t.first.now t.lists.now t.counts.now ∥₁
  pub rows_are : rows.plan.now ≡ plan
  pub numbers : FillNumbers plan t.width mask
  pub points_are : n ≡ (plan_of plan).points

-- a row of rules 1 to 3 of point x: its point, the bits that it adds, and what it gives from lines of which none is raised
pub record RowOf (P : Plan) (first lists counts : List ℕ) (mask x : ℕ) (by : Propagator) : Type 0 where
  pub from_in : by.from < P.points
  pub down_small : by.down < 65536
  pub joins : (t : ℕ) → t < width P → bit_or t by.add < width P
  pub rest : (t : ℕ) → t < width P → Raised (width P) lists counts by.from t ⊎ (propagated mask by.avoid by.add by.up by.down t (get_or first (by.from * width P + t) 0) ≤ get_or first (x * width P + bit_or t by.add) 0)

-- unless `over` holds, no raised cell is over the horizon
pub record NoneOver (P : Plan) (first lists counts : List ℕ) (over : Bool) : Type 0 where
  pub none : over ≡ false → (y t : ℕ) → y < P.points → t < width P → Raised (width P) lists counts y t → get_or first (y * width P + t) 0 ≤ P.horizon
