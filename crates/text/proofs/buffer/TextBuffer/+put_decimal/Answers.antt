-- One digit is put as a byte; else the digits of a tenth, and then the last.
use native.Mathlib.Omega.{arith}
use Rattle.text.proofs.Decimals.{decimal_one, decimal_more}
use Rattle.text.proofs.Puts.{puts_append, room_first, room_second}
use Rattle.text.proofs.buffer.TextBuffer.+put_decimal.Goals as goal

pub put_byte-requires : goal.put_byte-requires
put_byte-requires t c = rw (c.digit.ensures, ← decimal_one c.args.n (omega arith)) c.requires

pub returns-then-n-lt10 : goal.returns-then-n-lt10
returns-then-n-lt10 t c = rw (decimal_one c.args.n (omega arith), ← c.digit.ensures) c.put_byte.ensures

pub put_decimal-requires : goal.put_decimal-requires
put_decimal-requires t c = (omega arith, room_first _ _ (rw (decimal_more c.args.n (omega arith)) at c.requires))

pub put_byte-requires-2 : goal.put_byte-requires-2
put_byte-requires-2 t c = rw c.digit-2.ensures (room_second _ _ (rw (decimal_more c.args.n (omega arith)) at c.requires) c.put_decimal.ensures)

pub returns : goal.returns
returns t c = rw (decimal_more c.args.n (omega arith), ← c.digit-2.ensures) (puts_append c.put_decimal.ensures c.put_byte-2.ensures)
