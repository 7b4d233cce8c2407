-- The loop's invariant: the points that are left have the first table's cells, the others the next ones, and what is raised is noted.
use Rattle.rounds_tables.proofs.RoundByPoints.{SoFar}
use Rattle.rounds_tables.proofs.making.next_round.Given as goal

abbrev pub invariant-loop-x : goal.invariant-loop-x
invariant-loop-x l = (goal.iterator-loop-x).can_next l.x-iterator × (goal.iterator-loop-x).is_finite l.x-iterator × SoFar l.plan l.marks l.horizon l.first l.initial.second l.lists l.counts l.fn.rows l.initial.notes l.initial.noted l.width l.mask l.fn.set l.over l.x-iterator.left l.second l.notes l.noted
