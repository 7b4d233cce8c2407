-- `rules_ground::lines::frame_of` meets its contract: the shifts and masks are those of the plan's numbers of links and propositions.
use native.Mathlib.Omega.{arith}
use Rattle.plan.proofs.Ranges.{sizes_few}
use Rattle.rules_ground.proofs.SearchedLaws.{sets_pos, labels_pos, frame}
use Rattle.rules_ground.proofs.lines.frame_of.Goals as goal

pub overflow_shl-result : goal.overflow_shl-result
overflow_shl-result c = omega (arith, (sizes_few _ c.requires).0)

pub overflow_sub-result : goal.overflow_sub-result
overflow_sub-result c = sets_pos _ c.requires _ c.links-k.ensures.0

pub labels-requires : goal.labels-requires
labels-requires c = (sizes_few _ c.requires).1

pub overflow_sub-result-2 : goal.overflow_sub-result-2
overflow_sub-result-2 c = labels_pos _ c.requires _ c.labels.ensures.0

pub returns : goal.returns
returns c = frame _ c.requires _ _ _ c.links-k.ensures.0 c.propositions.ensures.0 c.labels.ensures.0
