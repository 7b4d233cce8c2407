-- The number, the cells and the newline, one behind the other.
use Rattle.text.proofs.Puts.{puts_append, room_first, room_second}
use Rattle.report.specs.Text.{point_line}
use Rattle.report.proofs.PrintedLaws.{cells_joined}
use Rattle.report.proofs.lines.put_point.Goals as goal

pub put_decimal-requires : goal.put_decimal-requires
unfolding point_line
put_decimal-requires c = room_first _ _ c.requires.1

pub put_cells-requires : goal.put_cells-requires
unfolding point_line
put_cells-requires c = rw (cells_joined c.args.table.now _ _ c.requires.0) (room_first _ _ (room_second _ _ c.requires.1 c.put_decimal.ensures))

pub put_byte-requires : goal.put_byte-requires
unfolding point_line
put_byte-requires c = room_second _ _ (room_second _ _ c.requires.1 c.put_decimal.ensures) (rw (cells_joined c.args.table.now _ _ c.requires.0) at c.put_cells.ensures)

pub returns : goal.returns
unfolding point_line
returns c = puts_append c.put_decimal.ensures (puts_append (rw (cells_joined c.args.table.now _ _ c.requires.0) at c.put_cells.ensures) c.put_byte.ensures)
