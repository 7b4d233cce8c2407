-- The loop's invariant: the steps of the places passed are made.
use native.Mathlib.Nat.{zero-add}
use Rattle.rules_fill.proofs.StepLaws.{steps_none}
use Rattle.rules_fill.proofs.ShapeLaws.{step_made}
use Rattle.rules_halving.proofs.Pairs.{pair_step}
use Rattle.rules_halving.proofs.halves.pairs_of.Goals as goal

pub loop-b-init : goal.loop-b-init
loop-b-init c = steps_none _ _

pub loop-b-preserved : goal.loop-b-preserved
loop-b-preserved c = step_made _ _ _ _ _ c.loop-b.invariant (pair_step _ _ _ _ _ _ _ _ (rw zero-add c.min.ensures) c.max.ensures)
