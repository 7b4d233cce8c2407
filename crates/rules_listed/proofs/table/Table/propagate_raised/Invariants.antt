-- The loop's invariant: the steps of the raised cells passed are made.
use Rattle.rules_fill.specs.Shapes.{propagate_step}
use Rattle.rules_listed.proofs.Going.{Going}
use Rattle.rules_listed.proofs.table.Table.propagate_raised.Given as goal

abbrev pub invariant-loop-c : goal.invariant-loop-c
invariant-loop-c l = Going (propagate_step l.self.width l.self.first.now l.mask l.by.from l.by.avoid l.by.add l.by.up l.by.down) l.c-items l.initial.part l.c-index l.part
