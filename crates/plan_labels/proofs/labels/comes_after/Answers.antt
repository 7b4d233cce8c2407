use Rattle.std.proofs.Common.{rules}
use Rattle.plan.specs.Refusal.{comes_after}
use Rattle.plan.proofs.Chains.{every_from_all}
use Rattle.plan_labels.proofs.labels.comes_after.Goals as goal

pub returns : goal.returns
unfolding comes_after
returns c = every_from_all _ c.propositions.ensures.0 (λ x b q k. search rules) c.all.ensures.ran
