-- The loop's invariant: the cells passed are put.
use Rattle.text.specs.Joined.{joined}
use Rattle.text.specs.Buffer.{Puts}
use Rattle.report.specs.Text.{cell_text}
use Rattle.report.proofs.lines.put_cells.Given as goal

abbrev pub invariant-loop-cell : goal.invariant-loop-cell
invariant-loop-cell l = Puts (joined (cell_text l.cells 0) l.cell-index) l.initial.text l.text
