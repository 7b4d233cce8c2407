-- The loop's invariant: the steps of the values passed are made.
use mathlib.Core.Path.{refl, ◌∙◌}
use native.Mathlib.Omega.{arith}
use Rattle.rules_fill.proofs.StepLaws.{steps_none}
use Rattle.rules_fill.proofs.ShapeLaws.{done}
use Rattle.rules_dense.proofs.FreePlaces.{times_pos}
use Rattle.rules_dense.proofs.FreeHad.{run_had}
use Rattle.rules_dense.proofs.GatherLaws.{value_on}
use Rattle.rules_dense.proofs.gather.gather_own.Goals as goal

pub loop-m-init : goal.loop-m-init
loop-m-init c = (omega arith, times_pos (run_had c.args.free.run), steps_none _ _, refl)

pub gather_value-requires : goal.gather_value-requires
gather_value-requires c = record { m_in = omega arith; places_in = (c.requires.places_in.0, omega arith) }

pub overflow_step-m : goal.overflow_step-m
overflow_step-m c = omega arith

pub loop-m-smaller : goal.loop-m-smaller
loop-m-smaller c = omega arith

pub loop-m-preserved : goal.loop-m-preserved
loop-m-preserved c = let g = c.loop-m.invariant in
    (omega arith, omega arith, value_on _ _ _ _ _ _ _ _ _ g.0 g.2 c.gather_value.ensures.own_value, c.gather_value.ensures.same_length ∙ g.3)

pub shape_of-own : goal.shape_of-own
shape_of-own c = c.loop-m.invariant.3

pub returns : goal.returns
returns c = let g = c.loop-m.invariant in
    record { own_value = done _ _ _ _ _ g.2 (omega arith); same_length = g.3 }
