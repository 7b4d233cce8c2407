-- The loop's invariant: the cells passed are counted.
use mathlib.Core.Path.{◌≡◌}
use Rattle.plan.specs.Counting.{count}
use Rattle.page.specs.Page.{above}
use Rattle.page.proofs.printing.count_lines.Given as goal

abbrev pub invariant-loop-cell : goal.invariant-loop-cell
invariant-loop-cell l = l.lines ≡ count (above l.table) l.cell-index
