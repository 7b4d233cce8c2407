-- The loop's invariant: the steps of the raised cells passed are made.
use Rattle.rules_fill.specs.Shapes.{clear_from}
use Rattle.rules_listed.proofs.Going.{Going}
use Rattle.rules_listed.proofs.table.Table.clear_raised.Given as goal

abbrev pub invariant-loop-c : goal.invariant-loop-c
invariant-loop-c l = Going (clear_from l.self.width l.self.first.now l.mask l.initial.part.point) l.c-items l.initial.part l.c-index l.part
