-- For inner contracts only: what lines are judged with. Nothing here is to be believed.
use Rattle.std.specs.Prelude.{◌≡◌, List, ℕ}
use Rattle.plan.specs.Label.{Marks}
use Rattle.plan.specs.Layout.{plan_of}
use Rattle.plan.specs.Refusal.{Accepted}

-- an accepted plan, the marks, and the plan's horizon
pub record Judging (plan marks : List ℕ) (horizon : ℕ) : Type 0 where
  pub accepted : Accepted plan
  pub marked : Marks marks
  pub horizon_is : horizon ≡ (plan_of plan).horizon
