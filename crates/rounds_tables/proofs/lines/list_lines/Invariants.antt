-- The loop's invariant: the lines of the points passed are listed.
use Prim.Native.Nat.{◌≤◌}
use Rattle.rounds_tables.proofs.ListLaws.{LinedTo}
use Rattle.rounds_tables.proofs.lines.list_lines.Given as goal

abbrev pub invariant-loop-y : goal.invariant-loop-y
invariant-loop-y l = (l.y ≤ l.points) × LinedTo l.width l.table l.initial.lists l.initial.counts l.y l.lists l.counts
