-- `plan::fields::label_bytes` meets its contract.
use mathlib.Core.Path.{sym, ◌∙◌}
use native.Mathlib.Omega.{arith}
use Rattle.plan.specs.Layout.{plan_of, length_for, labelled_length_for}
use Rattle.plan.proofs.Forms.{labels_there, labels_none}
use Rattle.plan.proofs.fields.label_bytes.Goals as goal

pub returns-then-plan-lt4 : goal.returns-then-plan-lt4
unfolding length_for labelled_length_for
returns-then-plan-lt4 c = (sym (labels_none _ (λ e. omega arith)), omega arith)

pub returns-then-plan-length_for : goal.returns-then-plan-length_for
unfolding plan_of labelled_length_for
returns-then-plan-length_for c = (c.byte_at-n.ensures.0 ∙ sym (labels_there _ (omega arith)), c.byte_at-n.ensures.1)

pub returns : goal.returns
unfolding plan_of labelled_length_for
returns c = (sym (labels_none _ (λ e. c.if-plan-length_for.false (omega arith))), omega arith)
