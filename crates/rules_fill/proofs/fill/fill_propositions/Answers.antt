-- The loop's invariant: the steps of the propositions passed are made.
use mathlib.Core.Path.{refl, ◌∙◌}
use native.Mathlib.Omega.{arith}
use Rattle.rules_fill.specs.Shapes.{fill_propositions}
use Rattle.rules_fill.proofs.StepLaws.{steps_none}
use Rattle.rules_fill.proofs.ShapeLaws.{step_made, done}
use Rattle.rules_fill.proofs.Lending.{removal_on}
use Rattle.rules_fill.proofs.fill.fill_propositions.Goals as goal

pub loop-j-init : goal.loop-j-init
loop-j-init c = (omega arith, steps_none _ _, refl)

pub fill_proposition-requires : goal.fill_proposition-requires
fill_proposition-requires c = (removal_on _ _ _ _ _ _ c.requires c.loop-j.invariant.2, omega (arith, c.propositions-n.ensures.0))

pub overflow_step-j : goal.overflow_step-j
overflow_step-j c = omega arith

pub loop-j-smaller : goal.loop-j-smaller
loop-j-smaller c = omega arith

pub loop-j-preserved : goal.loop-j-preserved
loop-j-preserved c = let l = c.loop-j in
    (omega arith, step_made _ _ _ _ _ l.invariant.1 c.fill_proposition.ensures.part_value, c.fill_proposition.ensures.same_length ∙ l.invariant.2)

pub shape_of-part : goal.shape_of-part
shape_of-part c = c.loop-j.invariant.2

pub returns : goal.returns
unfolding fill_propositions
returns c = record { part_value = done _ _ _ _ _ c.loop-j.invariant.1 (omega (arith, c.propositions-n.ensures.0)); same_length = c.loop-j.invariant.2 }
