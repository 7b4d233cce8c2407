-- The loop's invariant: the noted cells passed are copied and listed, and the lines are those of the table as it is.
use Prim.Native.Nat.{◌+◌, ◌≤◌}
use Rattle.rounds_tables.proofs.NotedLaws.{NotedAt}
use Rattle.rounds_tables.proofs.Copying.{CopiedTo}
use Rattle.rounds_tables.proofs.settling.settle_point.Given as goal

abbrev pub invariant-loop-i : goal.invariant-loop-i
invariant-loop-i l = (l.i ≤ l.n) × NotedAt l.width l.source l.initial.target l.notes l.base l.n × (l.raised + l.width ≤ l.lines) × CopiedTo l.width l.source l.initial.target l.notes l.initial.lists l.base l.raised l.lines l.i l.target l.lists l.lined
