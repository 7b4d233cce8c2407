-- `rules_ground::search::Search::new` meets its contract: the frame, the width and the place are the plan's.
use native.Mathlib.Omega.{arith}
use Rattle.plan.proofs.Ranges.{sizes_few}
use Rattle.rules_ground.proofs.LineLaws.{cut_is}
use Rattle.rules_ground.proofs.SearchedLaws.{cut_small}
use Rattle.rules_ground.proofs.search.Search.new.Goals as goal

pub width-requires : goal.width-requires
width-requires c = sizes_few _ c.requires.0.accepted

pub labels-requires : goal.labels-requires
labels-requires c = (sizes_few _ c.requires.0.accepted).1

pub overflow_mul-result : goal.overflow_mul-result
overflow_mul-result c = omega (arith, cut_small _ c.requires.0.accepted _ c.args.line _ c.frame_of-frame.ensures c.labels.ensures.0)

pub overflow_add-result : goal.overflow_add-result
overflow_add-result c = omega (arith, cut_small _ c.requires.0.accepted _ c.args.line _ c.frame_of-frame.ensures c.labels.ensures.0)

pub invariant_of-result : goal.invariant_of-result
invariant_of-result c = record {
  accepted = c.requires.0.accepted;
  marked = c.requires.0.marked;
  long = c.requires.0.long;
  horizon_is = c.requires.0.horizon_is;
  width_is = c.width.ensures.0;
  framed = c.frame_of-frame.ensures;
  place_is = cut_is _ _ c.args.line _ c.frame_of-frame.ensures c.labels.ensures.0;
  point_in = c.requires.1;
}
