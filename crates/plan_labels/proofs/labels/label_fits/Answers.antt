-- `plan_labels::labels::label_fits` meets its contract: a label below 4^p is plain in four digits just where it is in p.
use mathlib.Core.Path.{◌≡◌, ◌∙◌}
use mathlib.Core.Bool.{false}
use Prim.Native.Nat.{ℕ, ◌^◌, ◌≤◌, ◌<◌}
use native.Mathlib.Omega.{arith}
use borrow.Author.Tests.{le-ltb, lt-ltb}
use Rattle.plan.specs.Label.{plain}
use Rattle.plan.specs.Plan.{Plan}
use Rattle.plan.specs.Refusal.{label_fits}
use Rattle.plan.proofs.LabelLaws.{plain_more}
use Rattle.plan_labels.proofs.labels.label_fits.Goals as goal

beyond : (P : Plan) (a : ℕ) → 4 ^ P.propositions ≤ a → false ≡ label_fits P a
unfolding label_fits
beyond P a l = rw (le-ltb _ _ l)

last : (P : Plan) (a : ℕ) → P.propositions ≤ 4 → a < 4 ^ P.propositions → plain 4 a ≡ label_fits P a
unfolding label_fits
last P a p l = rw (lt-ltb _ _ l) (plain_more P.propositions 4 a p l)

pub returns-else-label-labels : goal.returns-else-label-labels
returns-else-label-labels c = le-ltb _ _ c.if-label-labels.false ∙ beyond _ _ (omega arith)

pub returns-then-label-labels : goal.returns-then-label-labels
returns-then-label-labels c = c.is_plain.ensures ∙ last _ _ (omega arith) (omega arith)
