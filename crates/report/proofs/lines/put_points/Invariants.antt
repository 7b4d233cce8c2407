-- The loop's invariant: the lines of the points passed are put.
use Rattle.text.specs.Joined.{joined}
use Rattle.text.specs.Buffer.{Puts}
use Rattle.report.specs.Text.{point_line}
use Rattle.report.proofs.lines.put_points.Given as goal

abbrev pub invariant-loop-x : goal.invariant-loop-x
invariant-loop-x l = Puts (joined (point_line l.table l.width) l.x) l.initial.text l.text
