-- The loop's invariant: the steps of the places passed are made.
use native.Mathlib.Omega.{arith}
use lib.ListN.{length}
use Rattle.rules_fill.proofs.StepLaws.{steps_none}
use Rattle.rules_fill.proofs.ShapeLaws.{step_made, done}
use Rattle.rules_halving.proofs.Pairs.{or_in, pairs_step, all_pairs}
use Rattle.rules_halving.proofs.halves.pairs.Goals as goal

pub loop-a-init : goal.loop-a-init
loop-a-init c = steps_none _ _

pub pairs_of-requires : goal.pairs_of-requires
pairs_of-requires c b k = omega (arith, or_in c.requires.0 c.loop-a.a b (omega arith) (omega (arith, c.requires.1)), c.requires.0.long_third)

pub loop-a-preserved : goal.loop-a-preserved
loop-a-preserved c = step_made _ _ _ _ _ c.loop-a.invariant (pairs_step _ _ _ _ _ _ _ (rw c.requires.1 at c.pairs_of.ensures.h_value))

pub returns-clause-product : goal.returns-clause-product
returns-clause-product c = all_pairs (length c.args.f.now) _ _ _ (or_in c.requires.0) _ _ c.requires.0.long_third (done _ _ _ _ _ c.loop-a.invariant (omega arith))
