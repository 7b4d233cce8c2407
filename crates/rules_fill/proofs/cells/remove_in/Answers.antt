-- The loop's invariant: the steps of the cells passed are made.
use Prim.Native.Nat.{◌*◌}
use native.Mathlib.Omega.{arith}
use Rattle.rules_fill.specs.Shapes.{remove_in}
use Rattle.rules_fill.proofs.StepLaws.{steps_none}
use Rattle.rules_fill.proofs.ShapeLaws.{step_made, done, row_cell, remove_cell_step}
use Rattle.rules_fill.proofs.cells.remove_in.Goals as goal

pub loop-c-init : goal.loop-c-init
loop-c-init c = steps_none _ _

pub loop-c-preserved : goal.loop-c-preserved
loop-c-preserved c = step_made _ _ _ _ _ c.loop-c.invariant (remove_cell_step _ _ _ _ _ _ _ _ _ _ (row_cell c.args.first.now (c.args.x * c.args.width) c.args.width c.loop-c.c _ c.from.ensures (omega arith)) c.remove_cell.ensures.part_value)

pub returns-clause-part_value : goal.returns-clause-part_value
unfolding remove_in
returns-clause-part_value c = done _ _ _ _ _ c.loop-c.invariant (omega arith)
