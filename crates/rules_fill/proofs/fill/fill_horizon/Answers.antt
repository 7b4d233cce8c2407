-- The loop's invariant: the steps of the points passed are made, and those begin at 1.
use mathlib.Core.Path.{refl, ◌∙◌}
use native.Mathlib.Omega.{arith}
use Rattle.plan.proofs.Ranges.{accepted_well_formed}
use Rattle.rules_fill.specs.Shapes.{fill_horizon}
use Rattle.rules_fill.proofs.StepLaws.{steps_none}
use Rattle.rules_fill.proofs.ShapeLaws.{done, horizon_turn}
use Rattle.rules_fill.proofs.Lending.{rows_on}
use Rattle.rules_fill.proofs.fill.fill_horizon.Goals as goal

pub loop-y-init : goal.loop-y-init
loop-y-init c = (omega arith, omega (arith, c.points-n.ensures.0, (accepted_well_formed c.args.plan.now c.requires.lent.accepted).two), steps_none _ _, refl)

pub edge_in-requires : goal.edge_in-requires
edge_in-requires c = record { rows_lent = rows_on _ _ _ _ _ _ _ c.requires c.loop-y.invariant.3; in_plan = (c.loop-y.invariant.0, omega (arith, c.points-n.ensures.0)) }

pub overflow_step-y : goal.overflow_step-y
overflow_step-y c = omega arith

pub loop-y-smaller : goal.loop-y-smaller
loop-y-smaller c = omega arith

pub loop-y-preserved : goal.loop-y-preserved
loop-y-preserved c = let l = c.loop-y in
    (omega arith, omega arith, horizon_turn _ _ _ _ _ _ l.invariant.0 l.invariant.2 c.edge_in.ensures.part_value, c.edge_in.ensures.same_length ∙ l.invariant.3)

pub shape_of-part : goal.shape_of-part
shape_of-part c = c.loop-y.invariant.3

pub returns : goal.returns
unfolding fill_horizon
returns c = record { part_value = done _ _ _ _ _ c.loop-y.invariant.2 (omega (arith, c.points-n.ensures.0)); same_length = c.loop-y.invariant.3 }
