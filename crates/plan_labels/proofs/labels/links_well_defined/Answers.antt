use Rattle.std.proofs.Common.{rules}
use Rattle.plan.proofs.Chains.{every_from_all}
use Rattle.plan_labels.proofs.labels.links_well_defined.Goals as goal

pub returns : goal.returns
returns c = every_from_all _ c.links.ensures.0 (λ x b q k. search rules) c.all.ensures.ran
