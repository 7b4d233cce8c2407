-- For inner contracts only: what the function that puts an answer's text is lent. Nothing here is to be believed.
use Rattle.std.specs.Prelude.{◌≡◌, false, List, ℕ, ◌≤◌, length}
use Rattle.plan.specs.Plan.{cells}
use Rattle.plan.specs.Layout.{plan_of}
use Rattle.plan.specs.Refusal.{Accepted}
use Rattle.rounds_making.specs.Outcomes.{Outcome}
use Rattle.text.specs.declared.buffer.TextBuffer.{TextBuffer}
use Rattle.text.specs.Buffer.{HasRoom}
use Rattle.report.specs.Text.{is_refused, text_of}

-- unless refused, the plan is accepted and the table has all its cells; and there is room for the text
pub record Printable (bs : List ℕ) (o : Outcome) (T : List ℕ) (b : TextBuffer) : Type 0 where
  pub accepted : is_refused o ≡ false → Accepted bs × (cells (plan_of bs) ≤ length T)
  pub room : HasRoom (text_of o (plan_of bs) T) b
