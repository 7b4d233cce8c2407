-- `plan::fields::link_activation` meets its contract.
use Rattle.plan.specs.Layout.{plan_of}
use Rattle.plan.proofs.fields.link_activation.Goals as goal

pub returns : goal.returns
unfolding plan_of
returns c = (rw c.ends_at.ensures.0 at c.byte_at.ensures.0, c.byte_at.ensures.1)
