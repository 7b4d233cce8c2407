-- For inner contracts only: what a round is made from, in the words of the layer below. Nothing here is to be believed.
use Rattle.std.specs.Prelude.{◌≡◌, Bool, List, ℕ, ◌≤◌, ◌<◌, length, take}
use Rattle.plan.specs.Plan.{Plan}
use Rattle.plan.specs.Layout.{plan_of}
use Rattle.plan.specs.Horizons.{plan_with}
use Rattle.rules_fill.specs.declared.shapes.Propagator.{Propagator}
use Rattle.rules_listed.specs.declared.part.Part.{Part}
use Rattle.rules_listed.specs.Parts.{cells, PartOf}
use Rattle.rules_refill.specs.declared.refill.Refill.{Refill}
use Rattle.rules_refill.specs.Lent.{RowOf, NoneOver}

-- the plan with the horizon, and the waits of the table
abbrev pub whole : Refill → Plan
whole r = plan_with r.plan.now r.horizon

abbrev pub waits : Refill → List ℕ
waits r = r.table.first.now

-- a part of one of the plan's points
pub record PartIn (r : Refill) (p : Part) : Type 0 where
  pub point_in : p.point < r.points
  pub part_of : PartOf r.table p

-- what the part of point x is made of: as many cells in the next table as in this one, which are the same, and room for notes of them
pub record PartLent (r : Refill) (x : ℕ) (cells' notes : List ℕ) : Type 0 where
  pub point_in : x < r.points
  pub cells_long : r.table.width ≤ length cells'
  pub notes_long : r.table.width ≤ length notes
  pub cells_are : take r.table.width cells' ≡ cells r.table x

-- a row of rules 1 to 3 of point x
abbrev pub RowIn : Refill → ℕ → Propagator → Type 0
RowIn r x by = RowOf (whole r) (waits r) r.table.lists.now r.table.counts.now r.mask x by

-- unless `over` holds, no raised cell is over the horizon
abbrev pub OverIn : Refill → Bool → Type 0
OverIn r over = NoneOver (whole r) (waits r) r.table.lists.now r.table.counts.now over

-- what a round is made from, with such a plan, horizon and table
pub record MadeRefill (plan : List ℕ) (horizon : ℕ) (first lists counts : List ℕ) (w : ℕ) (r : Refill) : Type 0 where
  pub plan_is : r.plan.now ≡ plan
  pub horizon_is : r.horizon ≡ horizon
  pub first_is : waits r ≡ first
  pub lists_are : r.table.lists.now ≡ lists
  pub counts_are : r.table.counts.now ≡ counts
  pub width_is : r.table.width ≡ w
  pub points_are : r.points ≡ (plan_of plan).points
