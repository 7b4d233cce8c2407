-- The word, the decimal and the newline, one behind the other.
use Rattle.text.proofs.Puts.{puts_append, room_first, room_second}
use Rattle.report.specs.Text.{numbered_line}
use Rattle.report.proofs.lines.put_numbered.Goals as goal

pub put_bytes-requires : goal.put_bytes-requires
unfolding numbered_line
put_bytes-requires c = room_first _ _ c.requires

pub put_decimal-requires : goal.put_decimal-requires
unfolding numbered_line
put_decimal-requires c = room_first _ _ (room_second _ _ c.requires c.put_bytes.ensures)

pub put_byte-requires : goal.put_byte-requires
unfolding numbered_line
put_byte-requires c = room_second _ _ (room_second _ _ c.requires c.put_bytes.ensures) c.put_decimal.ensures

pub returns : goal.returns
unfolding numbered_line
returns c = puts_append c.put_bytes.ensures (puts_append c.put_decimal.ensures c.put_byte.ensures)
