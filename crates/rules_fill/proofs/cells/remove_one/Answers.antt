-- The loop's invariant: a block starts at the cell reached, and the steps of the cells before it are made.
use mathlib.Core.Path.{refl, ◌∙◌}
use native.Mathlib.Nat.{zero-mod, add-mod_right}
use native.Mathlib.Omega.{arith}
use Rattle.rules_fill.specs.Shapes.{remove_one}
use Rattle.rules_fill.proofs.StepLaws.{steps_none}
use Rattle.rules_fill.proofs.ShapeLaws.{done}
use Rattle.rules_fill.proofs.Runs.{low_pos, block_fits, block_in, run_free, block_made}
use Rattle.rules_fill.proofs.cells.remove_one.Goals as goal

pub overflow_mul-base : goal.overflow_mul-base
overflow_mul-base c = omega arith

pub overflow_add-block : goal.overflow_add-block
overflow_add-block c = omega (arith, block_fits c.requires.0.run)

pub loop-start-init : goal.loop-start-init
loop-start-init c = (omega arith, zero-mod _, steps_none _ _, refl)

pub overflow_add-start : goal.overflow_add-start
overflow_add-start c = omega (arith, block_in c.requires.0.run _ c.loop-start.invariant.1 (omega arith))

pub remove_run-requires : goal.remove_run-requires
remove_run-requires c = let l = c.loop-start in
    let e = block_in c.requires.0.run _ l.invariant.1 (omega arith) in
    (record { in_order = omega arith; cells_in = omega arith; joined_in = λ u h. omega (arith, c.requires.1 u (omega arith)); free = λ u h k. run_free c.requires.0.run l.start u l.invariant.1 h (omega arith) }, c.requires.2, c.requires.0.add_small)

pub overflow_add-start-in-loop-start : goal.overflow_add-start-in-loop-start
overflow_add-start-in-loop-start c = omega (arith, block_in c.requires.0.run _ c.loop-start.invariant.1 (omega arith))

pub loop-start-smaller : goal.loop-start-smaller
loop-start-smaller c = omega (arith, low_pos c.requires.0.run)

pub loop-start-preserved : goal.loop-start-preserved
loop-start-preserved c = let l = c.loop-start in
    (block_in c.requires.0.run _ l.invariant.1 (omega arith), add-mod_right _ _ ∙ l.invariant.1, block_made c.requires.0.run _ _ _ _ _ _ _ _ _ _ l.invariant.1 l.invariant.2 (c.remove_run.ensures.by_index _ refl), c.remove_run.ensures.same_length ∙ l.invariant.3)

pub shape_of-part : goal.shape_of-part
shape_of-part c = c.loop-start.invariant.3

pub returns : goal.returns
unfolding remove_one
returns c = record { part_value = done _ _ _ _ _ c.loop-start.invariant.2 (omega arith); same_length = c.loop-start.invariant.3 }
