-- `plan::label::join` meets its contract.
use Rattle.plan.proofs.LabelLaws.{or_join}
use Rattle.plan.proofs.label.join.Goals as goal

pub returns : goal.returns
returns c = λ p ha hb. or_join p c.args.a c.args.b ha hb
