-- `plan::fields::propositions` meets its contract.
use borrow.Author.Rules.{rules}
use Rattle.plan.specs.Layout.{plan_of}
use Rattle.plan.proofs.fields.propositions.Goals as goal

pub returns : goal.returns
unfolding plan_of
returns c = search rules
