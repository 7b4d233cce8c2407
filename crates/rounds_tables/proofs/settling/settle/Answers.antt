-- The loop's invariant: the points that are left are as they were, and the others are done.
use Prim.Native.Nat.{◌+◌, ◌*◌, ◌<◌}
use mathlib.Core.Path.{refl}
use native.Mathlib.Omega.{arith}
use lib.ListN.{length, length-set}
use Rattle.rounds_points.proofs.PointSets.{point_below}
use Rattle.rounds_tables.proofs.SettleLaws.{settled_none, room, point_lent, settled_quiet, settled_copied, all_settled}
use Rattle.rounds_tables.proofs.settling.settle.Goals.{In-Some}
use Rattle.rounds_tables.proofs.settling.settle.Goals as goal

-- the point taken out has its entries in the lists of numbers
abbrev Place : In-Some → Type 0
Place c = (c.in-Some.y < length c.loop-y.noted) × (2 * c.in-Some.y + 1 < length c.loop-y.counts)

place : (c : In-Some) → Place c
place c =
    room _ _ _ _ _ _ _ _ _ c.requires _ _ _ _ _ _ c.loop-y.invariant.2 c.in-Some.y c.in-Some.ensures.steps.0

pub loop-y-init : goal.loop-y-init
loop-y-init c = (tt, tt, rw (c.into_iter-y-iterator.ensures.into_iter_gives, c.iter-y-items.ensures, c.new-changed.ensures) (settled_none _ _ _ _ _ _ _ _ _ c.requires))

pub insert-requires : goal.insert-requires
insert-requires c = omega (arith, c.requires.few, point_below c.loop-y.y-iterator.left c.args.points c.in-Some.y c.in-Some.ensures.steps.0 c.loop-y.invariant.2.left_below)

pub bounds-noted-y : goal.bounds-noted-y
bounds-noted-y c = (place (goal.at.bounds-noted-y c).In-Some).0

pub bounds-noted-y-in-loop-y : goal.bounds-noted-y-in-loop-y
bounds-noted-y-in-loop-y c = (place (goal.at.bounds-noted-y-in-loop-y c).In-Some).0

pub bounds-counts-y : goal.bounds-counts-y
bounds-counts-y c = omega (arith, (place (goal.at.bounds-counts-y c).In-Some).1)

pub bounds-counts-y-then-n-ne0 : goal.bounds-counts-y-then-n-ne0
bounds-counts-y-then-n-ne0 c = simp length-set (place (goal.at.bounds-counts-y-then-n-ne0 c).In-Some).1

pub settle_point-requires : goal.settle_point-requires
settle_point-requires c = point_lent _ _ _ _ _ _ _ _ _ c.requires _ _ _ _ _ _ c.loop-y.invariant.2 c.in-Some.y c.in-Some.ensures.steps.0

pub bounds-counts-y-then-n-ne0-2 : goal.bounds-counts-y-then-n-ne0-2
bounds-counts-y-then-n-ne0-2 c = simp length-set (place (goal.at.bounds-counts-y-then-n-ne0-2 c).In-Some).1

pub loop-y-preserved-then-n-ne0 : goal.loop-y-preserved-then-n-ne0
loop-y-preserved-then-n-ne0 c = (tt, tt, rw c.insert.ensures (settled_copied _ _ _ _ _ _ _ _ _ c.requires _ _ _ _ _ _ c.loop-y.invariant.2 c.in-Some.y c.in-Some.ensures.steps.0 _ c.in-Some.ensures.steps.2 c.in-Some.ensures.steps.3 _ _ _ _ c.if-n-ne0.true c.settle_point.ensures.after_point c.settle_point.ensures.same_length.0 c.settle_point.ensures.same_length.1 refl))

pub loop-y-preserved : goal.loop-y-preserved
loop-y-preserved c = (tt, tt, settled_quiet _ _ _ _ _ _ _ _ _ c.requires _ _ _ _ _ _ c.loop-y.invariant.2 c.in-Some.y c.in-Some.ensures.steps.0 _ c.in-Some.ensures.steps.2 c.in-Some.ensures.steps.3 c.if-n-ne0.false)

pub returns : goal.returns
returns c = let i = c.loop-y.invariant.2 in
    record { after_settle = all_settled _ _ _ _ _ _ _ _ _ c.requires _ _ _ _ _ _ c.in-None.ensures.steps.0 i; same_length = (i.target_long, i.noted_long, i.lists_long, i.counts_long) }
