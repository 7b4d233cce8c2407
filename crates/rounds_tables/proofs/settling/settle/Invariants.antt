-- The loop's invariant: the points that are left are as they were, and the others are done.
use Rattle.rounds_tables.proofs.SettleLaws.{SettledTo}
use Rattle.rounds_tables.proofs.settling.settle.Given as goal

abbrev pub invariant-loop-y : goal.invariant-loop-y
invariant-loop-y l = (goal.iterator-loop-y).can_next l.y-iterator × (goal.iterator-loop-y).is_finite l.y-iterator × SettledTo l.points l.width l.source l.initial.target l.initial.noted l.initial.lists l.initial.counts l.target l.noted l.lists l.counts l.y-iterator.left l.changed
