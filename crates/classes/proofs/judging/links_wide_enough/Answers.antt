-- Each link is tested.
use Rattle.std.proofs.Common.{rules}
use Rattle.plan.proofs.Chains.{every_from_all}
use Rattle.classes.proofs.judging.links_wide_enough.Goals as goal

pub returns : goal.returns
returns c = every_from_all _ c.links.ensures.0 (λ x b q k. search rules) c.all.ensures.ran
