-- `plan::fields::width` meets its contract.
use Rattle.plan.proofs.Widths.{width_shift}
use Rattle.plan.proofs.fields.width.Goals as goal

pub returns : goal.returns
returns c = width_shift _ _ _ _ c.links.ensures.0 c.propositions.ensures.0 c.requires.0 c.requires.1
