-- The loop's invariant: the steps of the places passed are made.
use native.Mathlib.Omega.{arith}
use lib.Seq.{length-take-le}
use Rattle.rules_fill.proofs.StepLaws.{steps_none}
use Rattle.rules_dense.proofs.FreePlaces.{count_pos, valued_in}
use Rattle.rules_dense.proofs.FreeHad.{run_had}
use Rattle.rules_dense.proofs.GatherLaws.{own_on, own_whole}
use Rattle.rules_dense.proofs.gather.gather_value.Goals as goal

pub overflow_mul-start : goal.overflow_mul-start
overflow_mul-start c = omega (arith, valued_in (run_had c.args.free.run) 0 c.args.m (count_pos (run_had c.args.free.run)) c.requires.m_in, (run_had c.args.free.run).small)

pub overflow_add-start : goal.overflow_add-start
overflow_add-start c = omega (arith, valued_in (run_had c.args.free.run) 0 c.args.m (count_pos (run_had c.args.free.run)) c.requires.m_in, (run_had c.args.free.run).small)

pub loop-z-init : goal.loop-z-init
loop-z-init c = steps_none _ _

pub overflow_add-start-in-loop-z : goal.overflow_add-start-in-loop-z
overflow_add-start-in-loop-z c = omega (arith, valued_in (run_had c.args.free.run) c.loop-z.z c.args.m (omega (arith, length-take-le c.args.free.count c.args.own.now c.requires.places_in.1)) c.requires.m_in, c.place.ensures.0, c.requires.places_in.0, (run_had c.args.free.run).small)

pub offset_bounds-first-start : goal.offset_bounds-first-start
offset_bounds-first-start c = omega (arith, valued_in (run_had c.args.free.run) c.loop-z.z c.args.m (omega (arith, length-take-le c.args.free.count c.args.own.now c.requires.places_in.1)) c.requires.m_in, c.place.ensures.0, c.requires.places_in.0, (run_had c.args.free.run).small)

pub bounds-first-start : goal.bounds-first-start
bounds-first-start c = omega (arith, valued_in (run_had c.args.free.run) c.loop-z.z c.args.m (omega (arith, length-take-le c.args.free.count c.args.own.now c.requires.places_in.1)) c.requires.m_in, c.place.ensures.0, c.requires.places_in.0, (run_had c.args.free.run).small)

pub loop-z-preserved : goal.loop-z-preserved
loop-z-preserved c = own_on _ _ _ _ _ _ _ _ _ _ c.loop-z.invariant c.place.ensures.0 c.max.ensures

pub returns-clause-own_value : goal.returns-clause-own_value
returns-clause-own_value c = own_whole _ _ _ _ _ _ _ c.requires.places_in.1 _ _ c.loop-z.invariant (omega (arith, length-take-le c.args.free.count c.args.own.now c.requires.places_in.1))
