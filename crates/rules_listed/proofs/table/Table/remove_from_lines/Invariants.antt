-- The loop's invariant: the steps of the lines of the part's point passed are made.
use Rattle.rules_listed.specs.Listed.{remove_own_step}
use Rattle.rules_listed.proofs.Going.{Going}
use Rattle.rules_listed.proofs.table.Table.remove_from_lines.Given as goal

abbrev pub invariant-loop-c : goal.invariant-loop-c
invariant-loop-c l = Going (remove_own_step l.self.width l.self.first.now l.by l.initial.part.point l.place l.other) l.c-items l.initial.part l.c-index l.part
