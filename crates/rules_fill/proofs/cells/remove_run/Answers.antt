-- The loop's invariant: the steps from lo to the cell reached are made.
use mathlib.Core.Path.{refl, ◌∙◌}
use native.Mathlib.Omega.{arith}
use Rattle.rules_fill.specs.Shapes.{remove_step}
use Rattle.rules_fill.proofs.StepLaws.{steps_none}
use Rattle.rules_fill.proofs.ShapeLaws.{turn_from, done}
use Rattle.rules_fill.proofs.cells.remove_run.Goals as goal

pub loop-c-init : goal.loop-c-init
loop-c-init c = (omega arith, omega arith, λ m e. done _ 0 _ _ _ (steps_none _ _) (omega arith), refl)

pub remove_at-requires : goal.remove_at-requires
remove_at-requires c = let t = c.loop-c.c in
    (record { cell_in = omega arith; joined_in = omega (arith, c.requires.0.joined_in t (omega arith)); free = c.requires.0.free t (omega arith) (omega arith) }, c.requires.1, c.requires.2)

pub overflow_step-c : goal.overflow_step-c
overflow_step-c c = omega arith

pub loop-c-smaller : goal.loop-c-smaller
loop-c-smaller c = omega arith

pub loop-c-preserved : goal.loop-c-preserved
loop-c-preserved c = let l = c.loop-c in
    (omega arith, omega arith, λ m e. turn_from (remove_step m _ _ _ _ _ _) _ _ _ _ _ l.invariant.0 (l.invariant.2 m e) (c.remove_at.ensures.by_index m e), c.remove_at.ensures.same_length ∙ l.invariant.3)

pub shape_of-part : goal.shape_of-part
shape_of-part c = c.loop-c.invariant.3

pub returns : goal.returns
returns c = record { by_index = λ m e. done _ _ _ _ _ (c.loop-c.invariant.2 m e) (omega arith); same_length = c.loop-c.invariant.3 }
