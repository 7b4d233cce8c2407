-- `plan::fields::link_most` meets its contract.
use Rattle.plan.specs.Layout.{plan_of, most_at}
use Rattle.plan.proofs.fields.link_most.Goals as goal

pub returns : goal.returns
unfolding plan_of most_at
returns c = (rw c.data_at.ensures.0 at c.word_at.ensures.0, c.word_at.ensures.1)
