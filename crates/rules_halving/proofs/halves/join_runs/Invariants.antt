-- The loop's invariant: the greater of each two passed is laid down.
use Rattle.rules_halving.proofs.Loops.{JoinedTo}
use Rattle.rules_halving.proofs.halves.join_runs.Given as goal

abbrev pub invariant-loop-i : goal.invariant-loop-i
invariant-loop-i l = JoinedTo l.initial.g l.from l.n l.top l.i l.g
