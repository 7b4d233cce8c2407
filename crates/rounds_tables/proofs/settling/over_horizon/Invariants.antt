-- The loop's invariant: each changed point is left, or none of its raised cells is above the horizon.
use Rattle.rounds_tables.proofs.Walking.{OverLeft}
use Rattle.rounds_tables.proofs.settling.over_horizon.Given as goal

abbrev pub invariant-loop-y : goal.invariant-loop-y
invariant-loop-y l = (goal.iterator-loop-y).can_next l.y-iterator × (goal.iterator-loop-y).is_finite l.y-iterator × OverLeft l.points l.width l.horizon l.table l.lists l.counts l.fn.changed l.y-iterator.left
