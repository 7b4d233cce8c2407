-- The loop's invariant: the lines of the points passed are put.
use native.Mathlib.Omega.{arith}
use Rattle.std.proofs.Common.{rules}
use Rattle.rounds_tables.proofs.RoundLaws.{row_within}
use Rattle.text.specs.Joined.{joined}
use Rattle.text.proofs.Puts.{puts_none, puts_joined, room_joined}
use Rattle.report.specs.Text.{point_line}
use Rattle.report.proofs.lines.put_points.Goals as goal

pub loop-x-init : goal.loop-x-init
unfolding joined
loop-x-init c = puts_none

pub put_point-requires : goal.put_point-requires
put_point-requires c = let l = c.loop-x in
    (omega (arith, c.requires.0, row_within l.x c.args.points c.args.width (search rules)), room_joined (point_line c.args.table.now c.args.width) c.args.points l.x (search rules) c.requires.1 l.invariant)

pub loop-x-preserved : goal.loop-x-preserved
loop-x-preserved c = let l = c.loop-x in
    puts_joined (point_line c.args.table.now c.args.width) l.x l.invariant c.put_point.ensures
