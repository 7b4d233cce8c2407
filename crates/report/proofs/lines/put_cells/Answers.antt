-- The loop's invariant: the cells passed are put.
use lib.ListN.{length}
use Rattle.text.specs.Joined.{joined}
use Rattle.text.proofs.Puts.{puts_none, puts_joined, room_joined}
use Rattle.report.specs.Text.{cell_text}
use Rattle.report.proofs.PrintedLaws.{cell_first}
use Rattle.report.proofs.lines.put_cells.Goals as goal

pub loop-cell-init : goal.loop-cell-init
unfolding joined
loop-cell-init c = puts_none

pub put_cell-requires : goal.put_cell-requires
put_cell-requires c = let l = c.loop-cell in
    rw (← cell_first c.args.cells.now l.cell-index) (room_joined (cell_text c.args.cells.now 0) (length c.args.cells.now) l.cell-index c.loop-cell-test.true c.requires l.invariant)

pub loop-cell-preserved : goal.loop-cell-preserved
loop-cell-preserved c = let l = c.loop-cell in
    puts_joined (cell_text c.args.cells.now 0) l.cell-index l.invariant (rw (cell_first c.args.cells.now l.cell-index) c.put_cell.ensures)
