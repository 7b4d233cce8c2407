-- The loop's invariant: the waits of the places passed are laid down. Place 0 is set apart.
use native.Mathlib.Omega.{arith}
use Prim.Native.Nat.{◌+◌}
use lib.ListN.{drop, length-append}
use lib.Seq.{length-take-le}
use Rattle.rules_dense.proofs.FreePlaces.{count_pos, first_in}
use Rattle.rules_dense.proofs.FreeHad.{run_had}
use Rattle.rules_dense.proofs.GatherLaws.{filled_none, filled_by, front_filled, added_on, others_filled}
use Rattle.rules_dense.proofs.gather.gather_others.Goals as goal

pub loop-z-init : goal.loop-z-init
loop-z-init c = filled_none _ _

pub added-requires : goal.added-requires
added-requires c = omega (arith, c.requires.small.0.cell (c.args.base + c.place.result), c.requires.small.1)

pub loop-z-preserved : goal.loop-z-preserved
loop-z-preserved c = added_on _ _ _ _ _ _ _ _ _ c.loop-z.invariant (omega arith) c.place.ensures.0 c.added.ensures

pub returns-clause-filled : goal.returns-clause-filled
returns-clause-filled c = let n = length-take-le c.args.free.count c.args.others.now c.requires.places_in.1 in
    let whole = length-append c.loop-z.wait-items (drop c.args.free.count c.args.others.now) in
    others_filled (run_had c.args.free.run) _ _ _ _ (front_filled _ (filled_by c.loop-z.invariant (omega (arith, n))) (omega (arith, n))) (omega (arith, n, whole))

pub bounds-first-base-2 : goal.bounds-first-base-2
bounds-first-base-2 c = omega (arith, first_in (run_had c.args.free.run) c.requires.places_in.0)

pub bounds-others-0 : goal.bounds-others-0
bounds-others-0 c = omega (arith, count_pos (run_had c.args.free.run))
