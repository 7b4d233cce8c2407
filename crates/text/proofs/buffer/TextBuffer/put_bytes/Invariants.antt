-- The loop's invariant: the bytes passed are put.
use lib.ListN.{take}
use Rattle.text.specs.Buffer.{Puts}
use Rattle.text.proofs.buffer.TextBuffer.put_bytes.Given as goal

abbrev pub invariant-loop-byte : goal.invariant-loop-byte
invariant-loop-byte l = Puts (take l.byte-index l.bytes) l.initial.self l.self
