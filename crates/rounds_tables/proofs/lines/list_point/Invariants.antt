-- The loop's invariant: the lines of the cells passed are listed twice.
use Prim.Native.Nat.{◌+◌, ◌≤◌}
use lib.ListN.{length}
use Rattle.rounds_tables.proofs.LineLists.{ListedTo}
use Rattle.rounds_tables.proofs.lines.list_point.Given as goal

abbrev pub invariant-loop-c : goal.invariant-loop-c
invariant-loop-c l = (l.c ≤ l.width) × (l.n ≤ l.c) × (l.base + l.width ≤ length l.table) × (l.raised + l.width ≤ l.lines) × (l.lines + l.width ≤ length l.initial.lists) × ListedTo l.table l.initial.lists l.base l.raised l.lines l.c l.lists l.n
