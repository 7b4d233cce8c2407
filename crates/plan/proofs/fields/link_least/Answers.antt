-- `plan::fields::link_least` meets its contract.
use Rattle.plan.specs.Layout.{plan_of}
use Rattle.plan.proofs.fields.link_least.Goals as goal

pub returns : goal.returns
unfolding plan_of
returns c = (rw c.data_at.ensures.0 at c.word_at.ensures.0, c.word_at.ensures.1)
