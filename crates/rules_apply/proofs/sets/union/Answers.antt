-- `rules_apply::sets::union` meets its contract.
use mathlib.Core.Path.{refl}
use Rattle.plan.specs.LinkSet.{union}
use Rattle.rules_apply.proofs.sets.union.Goals as goal

pub returns : goal.returns
unfolding union
returns c = refl
