use Rattle.std.proofs.Common.{rules, refl}
use Rattle.plan.specs.Refusal.{differs}
use Rattle.plan.proofs.Chains.{every_from_all}
use Rattle.plan_refusal.proofs.refusals.not_finishing.Goals as goal

pub returns : goal.returns
unfolding differs
returns c = every_from_all _ refl (λ x b q k. search rules) c.all.ensures.ran
