-- `plan::fields::labels` meets its contract.
use Rattle.plan.proofs.Widths.{labels_shift}
use Rattle.plan.proofs.fields.labels.Goals as goal

pub returns : goal.returns
returns c = labels_shift _ _ c.propositions.ensures.0 c.requires
