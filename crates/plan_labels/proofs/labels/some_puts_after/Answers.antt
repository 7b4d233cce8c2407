use Rattle.std.proofs.Common.{rules}
use Rattle.plan.proofs.Chains.{some_from_any}
use Rattle.plan_labels.proofs.labels.some_puts_after.Goals as goal

pub returns : goal.returns
returns c = some_from_any _ c.edges.ensures.0 (λ x b q k. search rules) c.any.ensures.ran
