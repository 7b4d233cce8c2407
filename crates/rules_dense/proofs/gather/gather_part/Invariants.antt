-- The loop's invariant: the waits of the places passed are laid down.
use Rattle.rules_dense.specs.Gathered.{Filled, part_wait}
use Rattle.rules_dense.proofs.gather.gather_part.Given as goal

abbrev pub invariant-loop-z : goal.invariant-loop-z
invariant-loop-z l = Filled (part_wait l.part.cells.now l.free.low l.free.times) l.z l.wait-items
