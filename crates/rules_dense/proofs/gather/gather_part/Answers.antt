-- The loop's invariant: the waits of the places passed are laid down.
use native.Mathlib.Omega.{arith}
use Rattle.rules_dense.proofs.GatherLaws.{filled_none, part_on}
use Rattle.rules_dense.proofs.gather.gather_part.Goals as goal

pub loop-z-init : goal.loop-z-init
loop-z-init c = filled_none _ _

pub loop-z-preserved : goal.loop-z-preserved
loop-z-preserved c = part_on _ _ _ _ _ _ c.loop-z.invariant (omega arith) c.place.ensures.0
