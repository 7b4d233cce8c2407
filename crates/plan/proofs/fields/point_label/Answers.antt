-- `plan::fields::point_label` meets its contract.
use mathlib.Core.Path.{sym, ap, ◌∙◌}
use native.Mathlib.Omega.{arith}
use Rattle.plan.specs.Bytes.{byte_at}
use Rattle.plan.proofs.Forms.{label_there, label_none}
use Rattle.plan.proofs.fields.point_label.Goals as goal

pub returns-then-x-label_bytes : goal.returns-then-x-label_bytes
returns-then-x-label_bytes c = (c.byte_at.ensures.0 ∙ ap (byte_at _) (omega arith) ∙ sym (label_there _ _ (omega arith)), c.byte_at.ensures.1)

pub returns : goal.returns
returns c = (sym (label_none _ _ (omega arith)), omega arith)
