-- The loop's invariant: the cells of the points passed are laid over the second table.
use mathlib.Core.Path.{refl}
use native.Mathlib.Nat.{zero-mul}
use native.Mathlib.Omega.{arith}
use Rattle.plan.specs.Layout.{plan_of}
use Rattle.plan.proofs.Ranges.{sizes_few}
use Rattle.rules_fill.proofs.Laying.{laid_none}
use Rattle.rounds_tables.proofs.RoundLaws.{AtPoint, at_point, all_laid}
use Rattle.rounds_tables.proofs.making.round.Goals.{In-loop-x}
use Rattle.rounds_tables.proofs.making.round.Goals as goal

-- where a pass of the loop stands
point : (c : In-loop-x)
    → AtPoint c.args.plan.now c.args.horizon c.args.first.now c.args.second.now c.width-width.result c.cells-end.result c.loop-x.x c.loop-x.second
point c =
    let l = c.loop-x in
    at_point _ _ _ _ _ c.requires.ready c.requires.at_most _ _ _ l.x l.second c.points-n.ensures.0 c.width-width.ensures.0 c.cells-end.ensures c.loop-x-test.true l.invariant.1 l.invariant.2

pub width-width-requires : goal.width-width-requires
width-width-requires c = sizes_few c.args.plan.now c.requires.ready.accepted

pub cells-end-requires : goal.cells-end-requires
cells-end-requires c = sizes_few c.args.plan.now c.requires.ready.accepted

pub loop-x-init : goal.loop-x-init
loop-x-init c = (omega arith, simp zero-mul (laid_none _ _), refl)

pub slice_bounds-fill_point-end : goal.slice_bounds-fill_point-end
slice_bounds-fill_point-end c = (point (goal.at.slice_bounds-fill_point-end c).In-loop-x).cut

pub slice_bounds-fill_point-count : goal.slice_bounds-fill_point-count
slice_bounds-fill_point-count c = omega (arith, (point (goal.at.slice_bounds-fill_point-count c).In-loop-x).row)

pub slice_bounds-fill_point-start : goal.slice_bounds-fill_point-start
slice_bounds-fill_point-start c = omega (arith, (point (goal.at.slice_bounds-fill_point-start c).In-loop-x).row)

pub slice_bounds-fill_point-end-in-loop-x : goal.slice_bounds-fill_point-end-in-loop-x
slice_bounds-fill_point-end-in-loop-x c = omega arith

pub fill_point-requires : goal.fill_point-requires
fill_point-requires c = let p = point (goal.at.fill_point-requires c).In-loop-x in
    record { lent = p.lent; marked = c.requires.ready.marked; horizon_far = c.requires.ready.horizon_far; point_in = p.x_in }

pub loop-x-preserved : goal.loop-x-preserved
loop-x-preserved c = let p = point (goal.at.loop-x-preserved c).In-loop-x in
    (omega arith, p.more _ c.fill_point.ensures.part_value, p.as_long c.fill_point.new.part c.fill_point.ensures.same_length)

pub returns : goal.returns
returns c = let l = c.loop-x in
    record { second_value = all_laid (plan_of c.args.plan.now) _ _ _ l.x c.points-n.result c.width-width.result (omega arith) c.points-n.ensures.0 c.width-width.ensures.0 l.invariant.1; same_length = l.invariant.2 }
