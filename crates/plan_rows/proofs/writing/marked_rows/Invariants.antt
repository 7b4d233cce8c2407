-- The loop's invariant: the rows with mark 1 among those passed are listed.
use lib.ListN.{take}
use Rattle.plan_rows.proofs.Listed.{Listed}
use Rattle.plan_rows.proofs.writing.marked_rows.Given as goal

abbrev pub invariant-loop-i : goal.invariant-loop-i
invariant-loop-i l = Listed (take l.n l.marks) l.i l.initial.numbers l.count l.numbers
