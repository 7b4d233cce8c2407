-- The loop's invariant: the steps of the other point's lines passed are made.
use Rattle.rules_fill.specs.Shapes.{remove_step}
use Rattle.rules_listed.proofs.Going.{Going}
use Rattle.rules_listed.proofs.table.Table.remove_with.Given as goal

abbrev pub invariant-loop-u : goal.invariant-loop-u
invariant-loop-u l = Going (remove_step l.self.width l.self.first.now l.by.other l.by.mask l.by.add l.place l.wait) l.u-items l.initial.part l.u-index l.part
