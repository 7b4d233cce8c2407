-- The loop's invariant: the bytes passed are put.
use Rattle.std.proofs.Common.{rules}
use Rattle.text.proofs.Puts.{puts_taken, room_taken}
use Rattle.text.proofs.buffer.TextBuffer.put_bytes.Goals as goal

pub put_byte-requires : goal.put_byte-requires
put_byte-requires c = let l = c.loop-byte in
    room_taken c.args.bytes.now l.byte-index (search rules) c.requires l.invariant

pub loop-byte-preserved : goal.loop-byte-preserved
loop-byte-preserved c = let l = c.loop-byte in
    puts_taken c.args.bytes.now l.byte-index (search rules) l.invariant c.put_byte.ensures
