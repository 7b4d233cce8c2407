-- `conversion::converting::is_unlabelled` meets its contract: every label is tested.
use Rattle.std.proofs.Common.{rules}
use Rattle.plan.proofs.Chains.{every_from_all}
use Rattle.conversion.specs.Conversion.{unlabelled}
use Rattle.conversion.proofs.converting.is_unlabelled.Goals as goal

pub returns : goal.returns
unfolding unlabelled
returns c = every_from_all _ c.points.ensures.0 (λ x b q k. search rules) c.all.ensures.ran
