-- The loop's invariant: the waits of the places passed are laid down. Place 0 is set apart.
use Rattle.rules_dense.specs.Gathered.{Filled}
use Rattle.rules_dense.proofs.GatherLaws.{added_wait}
use Rattle.rules_dense.proofs.gather.gather_others.Given as goal

abbrev pub invariant-loop-z : goal.invariant-loop-z
invariant-loop-z l = Filled (added_wait l.first l.base l.free.low l.free.times l.add) l.z l.wait-items
