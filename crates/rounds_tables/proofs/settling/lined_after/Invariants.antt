-- The loop's invariant: each point with a line beside the starting line is left or found.
use Rattle.rounds_tables.proofs.Walking.{LinedLeft}
use Rattle.rounds_tables.proofs.settling.lined_after.Given as goal

abbrev pub invariant-loop-y : goal.invariant-loop-y
invariant-loop-y l = (goal.iterator-loop-y).can_next l.y-iterator × (goal.iterator-loop-y).is_finite l.y-iterator × LinedLeft l.points l.counts l.y-iterator.left l.found
