-- The loop's invariant: the greater of each two passed is laid down.
use native.Mathlib.Omega.{arith}
use Rattle.rules_halving.proofs.Loops.{joined_none, joined_more, all_joined}
use Rattle.rules_halving.proofs.halves.join_runs.Goals as goal

pub loop-i-init : goal.loop-i-init
loop-i-init c = joined_none _ _ _ _

pub loop-i-preserved : goal.loop-i-preserved
loop-i-preserved c = joined_more _ _ _ _ c.loop-i.i _ _ c.requires (omega arith) c.loop-i.invariant c.max.ensures

pub returns : goal.returns
returns c = record { joined = all_joined _ _ _ _ _ _ (omega arith) c.loop-i.invariant; same_length = c.loop-i.invariant.as_long }
