-- The loop's invariant: the steps of the cells passed are made.
use Prim.Native.Nat.{◌+◌, ◌*◌, ◌≤◌, ◌<◌}
use native.Mathlib.Omega.{arith}
use lib.Bits.{bit_or}
use Rattle.rules_fill.specs.Shapes.{propagate_in}
use Rattle.rules_fill.proofs.StepLaws.{steps_none}
use Rattle.rules_fill.proofs.ShapeLaws.{propagated_le, step_made, done, row_cell, propagate_step_lem}
use Rattle.rules_fill.proofs.cells.propagate_in.Goals as goal

pub loop-c-init : goal.loop-c-init
loop-c-init c = steps_none _ _

pub raise-requires : goal.raise-requires
raise-requires c =
    let t = c.loop-c.c in
    let i : bit_or t c.args.by.add < c.args.width = c.requires.joins t (omega arith) in
    let v : c.propagated-given.result ≤ c.from.result + c.args.by.down = rw c.propagated-given.ensures (propagated_le _ _ _ _ _ _ _) in
    (omega (arith, i, c.joined.ensures), omega (arith, v, row_cell c.args.first.now (c.args.by.from * c.args.width) c.args.width c.loop-c.c _ c.from.ensures (omega arith), c.requires.bound.cell (c.args.by.from * c.args.width + t)))

pub loop-c-preserved : goal.loop-c-preserved
loop-c-preserved c = step_made _ _ _ _ _ c.loop-c.invariant (propagate_step_lem _ _ _ _ _ _ _ _ _ _ _ _ _ (row_cell c.args.first.now (c.args.by.from * c.args.width) c.args.width c.loop-c.c _ c.from.ensures (omega arith)) c.propagated-given.ensures (rw c.joined.ensures at c.raise.ensures.part_value))

pub returns-clause-part_value : goal.returns-clause-part_value
unfolding propagate_in
returns-clause-part_value c = done _ _ _ _ _ c.loop-c.invariant (omega arith)
