-- The loop's invariant: each point with a line beside the starting line is left or found.
use mathlib.Core.Path.{refl}
use native.Mathlib.Omega.{arith}
use Rattle.rounds_points.proofs.PointSets.{point_below}
use Rattle.rounds_tables.proofs.Walking.{lined_first, lined_found, lined_passed, lined_last}
use Rattle.rounds_tables.proofs.settling.lined_after.Goals as goal

pub loop-y-init : goal.loop-y-init
loop-y-init c = (tt, tt, rw (c.into_iter-y-iterator.ensures.into_iter_gives, c.iter-y-items.ensures) (lined_first _ _ _ _ c.requires))

pub bounds-counts-y : goal.bounds-counts-y
bounds-counts-y c = omega (arith, point_below c.loop-y.y-iterator.left c.args.points c.in-Some.y c.in-Some.ensures.steps.0 c.loop-y.invariant.2.left_below)

pub insert-requires : goal.insert-requires
insert-requires c = omega (arith, c.requires.few, point_below c.loop-y.y-iterator.left c.args.points c.in-Some.y c.in-Some.ensures.steps.0 c.loop-y.invariant.2.left_below)

pub loop-y-preserved-then-counts-y-gt1 : goal.loop-y-preserved-then-counts-y-gt1
loop-y-preserved-then-counts-y-gt1 c = (tt, tt, rw c.insert.ensures (lined_found _ _ _ _ _ _ c.loop-y.invariant.2 c.in-Some.ensures.steps.0 c.in-Some.ensures.steps.2 c.in-Some.ensures.steps.3 _ refl))

pub loop-y-preserved : goal.loop-y-preserved
loop-y-preserved c = (tt, tt, lined_passed _ _ _ _ _ _ c.loop-y.invariant.2 c.in-Some.ensures.steps.0 c.in-Some.ensures.steps.2 c.in-Some.ensures.steps.3 (omega arith))

pub returns : goal.returns
returns c = lined_last _ _ _ _ c.in-None.ensures.steps.0 c.loop-y.invariant.2
