-- A space, and the decimal behind it.
use Rattle.text.proofs.Puts.{puts_append, room_first, room_second}
use Rattle.report.proofs.lines.put_cell.Goals as goal

pub put_byte-requires : goal.put_byte-requires
put_byte-requires c = room_first _ _ c.requires

pub put_decimal-requires : goal.put_decimal-requires
put_decimal-requires c = room_second _ _ c.requires c.put_byte.ensures

pub returns : goal.returns
returns c = puts_append c.put_byte.ensures c.put_decimal.ensures
