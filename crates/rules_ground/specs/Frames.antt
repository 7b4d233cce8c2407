-- For inner contracts only: what takes a cell apart, and the line that it holds. Nothing here is to be believed.
use Rattle.std.specs.Prelude.{◌≡◌, List, ℕ, ◌-◌, ◌*◌, ◌/◌, ◌%◌, ◌^◌, ◌<◌}
use Rattle.plan.specs.Plan.{Plan, cells}
use Rattle.plan.specs.Layout.{plan_of}
use Rattle.plan.specs.Refusal.{Accepted}
use Rattle.rules.specs.declared.Line.{Line}
use Rattle.rules.specs.Lines.{line_at}
use Rattle.rules_ground.specs.declared.Frame.{Frame}

-- shifts and masks that take the plan's cells apart
pub record Framed (P : Plan) (f : Frame) : Type 0 where
  pub links_is : f.links ≡ P.links
  pub bits_is : f.bits ≡ 2 * P.propositions
  pub sets_is : f.sets ≡ 2 ^ P.links - 1
  pub labels_is : f.labels ≡ 4 ^ P.propositions - 1
  pub links_small : f.links < 64
  pub bits_small : f.bits < 64

-- a line whose parts fit their bytes in a listing
pub record Fitting (l : Line) : Type 0 where
  pub point_fits : l.point < 256
  pub set_fits : l.set < 256
  pub label_fits : l.label < 256
  pub wait_fits : l.wait < 4294967296

-- the line of cell c that waits w
abbrev pub line_with : Plan → ℕ → ℕ → Line
line_with P c w = record { point = c / 4 ^ P.propositions / 2 ^ P.links; set = c / 4 ^ P.propositions % 2 ^ P.links; label = c % 4 ^ P.propositions; wait = w }

-- the same, for any plan that the frame is of
pub record LineMade (f : Frame) (c w : ℕ) (l : Line) : Type 0 where
  pub is_line : (P : Plan) → Framed P f → l ≡ line_with P c w
  pub fits : (plan : List ℕ) → Accepted plan → Framed (plan_of plan) f → c < cells (plan_of plan) → w < 4294967296 → Fitting l

-- the line of cell c with a table's wait
pub record LineRead (T : List ℕ) (f : Frame) (c : ℕ) (l : Line) : Type 0 where
  pub is_line : (P : Plan) → Framed P f → l ≡ line_at P T c
  pub fits : (plan : List ℕ) → Accepted plan → Framed (plan_of plan) f → c < cells (plan_of plan) → Fitting l
