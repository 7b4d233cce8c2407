-- For inner contracts only: what the functions that put a page's lines are lent. Nothing here is to be believed.
use Rattle.std.specs.Prelude.{◌≡◌, true, List, ℕ, ◌≤◌, ◌<◌, length}
use Rattle.plan.specs.Plan.{cells}
use Rattle.plan.specs.Layout.{plan_of}
use Rattle.plan.specs.Refusal.{every, Accepted}
use Rattle.rules.specs.declared.Line.{Line}
use Rattle.page.specs.Page.{wait_fits}

-- a line whose parts fit their columns
pub record LineFits (l : Line) : Type 0 where
  pub point_fits : l.point < 100
  pub set_fits : l.set < 16
  pub wait_fits : l.wait < 1000000

-- an accepted plan, and a table that has all its cells, whose waits fit their columns
pub record Printable (plan table : List ℕ) : Type 0 where
  pub accepted : Accepted plan
  pub long : cells (plan_of plan) ≤ length table
  pub waits_fit : every (wait_fits table) (cells (plan_of plan)) ≡ true
