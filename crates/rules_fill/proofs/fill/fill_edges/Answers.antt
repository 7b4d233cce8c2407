-- The loop's invariant: the steps of the edges passed are made.
use mathlib.Core.Path.{refl, ◌∙◌}
use native.Mathlib.Omega.{arith}
use Rattle.rules_fill.specs.Shapes.{fill_edges}
use Rattle.rules_fill.proofs.StepLaws.{steps_none}
use Rattle.rules_fill.proofs.ShapeLaws.{step_made, done}
use Rattle.rules_fill.proofs.Lending.{rows_on}
use Rattle.rules_fill.proofs.fill.fill_edges.Goals as goal

pub loop-i-init : goal.loop-i-init
loop-i-init c = (omega arith, steps_none _ _, refl)

pub plan_edge_in-requires : goal.plan_edge_in-requires
plan_edge_in-requires c = record { rows_lent = rows_on _ _ _ _ _ _ _ c.requires c.loop-i.invariant.2; rows_of = c.new-rows.ensures; i_bound = omega (arith, c.edges-n.ensures.0) }

pub overflow_step-i : goal.overflow_step-i
overflow_step-i c = omega arith

pub loop-i-smaller : goal.loop-i-smaller
loop-i-smaller c = omega arith

pub loop-i-preserved : goal.loop-i-preserved
loop-i-preserved c = let l = c.loop-i in
    (omega arith, step_made _ _ _ _ _ l.invariant.1 c.plan_edge_in.ensures.part_value, c.plan_edge_in.ensures.same_length ∙ l.invariant.2)

pub shape_of-part : goal.shape_of-part
shape_of-part c = c.loop-i.invariant.2

pub returns : goal.returns
unfolding fill_edges
returns c = record { part_value = done _ _ _ _ _ c.loop-i.invariant.1 (omega (arith, c.edges-n.ensures.0)); same_length = c.loop-i.invariant.2 }
