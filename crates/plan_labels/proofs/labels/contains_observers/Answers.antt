use Rattle.std.proofs.Common.{rules}
use Rattle.plan.specs.Refusal.{contains_observers}
use Rattle.plan.proofs.Chains.{every_from_all}
use Rattle.plan_labels.proofs.labels.contains_observers.Goals as goal

pub returns : goal.returns
unfolding contains_observers
returns c = every_from_all _ c.propositions.ensures.0 (λ x b q k. search rules) c.all.ensures.ran
