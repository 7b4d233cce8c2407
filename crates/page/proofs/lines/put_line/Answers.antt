-- The point, the columns between, the wait and the newline, one behind the other.
use Rattle.text.proofs.Puts.{puts_append, room_first, room_second}
use Rattle.page.specs.Columns.{columns}
use Rattle.page.proofs.LineLaws.{point_digits, wait_digits}
use Rattle.page.proofs.lines.put_line.Goals as goal

pub put_right_aligned-requires : goal.put_right_aligned-requires
unfolding columns
put_right_aligned-requires c = (point_digits c.args.line c.requires.0, room_first _ _ c.requires.1)

pub put_bytes-requires : goal.put_bytes-requires
unfolding columns
put_bytes-requires c = rw c.middle_columns.ensures (room_first _ _ (room_second _ _ c.requires.1 c.put_right_aligned.ensures))

pub put_right_aligned-requires-2 : goal.put_right_aligned-requires-2
unfolding columns
put_right_aligned-requires-2 c = let m = rw c.middle_columns.ensures at c.put_bytes.ensures in
    (wait_digits c.args.line c.requires.0, room_first _ _ (room_second _ _ (room_second _ _ c.requires.1 c.put_right_aligned.ensures) m))

pub put_byte-requires : goal.put_byte-requires
unfolding columns
put_byte-requires c = let m = rw c.middle_columns.ensures at c.put_bytes.ensures in
    room_second _ _ (room_second _ _ (room_second _ _ c.requires.1 c.put_right_aligned.ensures) m) c.put_right_aligned-2.ensures

pub returns : goal.returns
unfolding columns
returns c = let m = rw c.middle_columns.ensures at c.put_bytes.ensures in
    puts_append c.put_right_aligned.ensures (puts_append m (puts_append c.put_right_aligned-2.ensures c.put_byte.ensures))
