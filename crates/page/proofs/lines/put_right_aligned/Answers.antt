-- The blanks, and the decimal behind them.
use Rattle.page.proofs.LineLaws.{room_blanks, room_number, put_aligned}
use Rattle.page.proofs.lines.put_right_aligned.Goals as goal

pub put_blanks-requires : goal.put_blanks-requires
put_blanks-requires c = room_blanks c.args.width c.args.n c.decimal_length.result c.decimal_length.ensures.0 c.requires.1

pub put_decimal-requires : goal.put_decimal-requires
put_decimal-requires c = let d = c.decimal_length in
    room_number c.args.width c.args.n d.result d.ensures.0 c.requires.1 c.put_blanks.ensures

pub returns : goal.returns
returns c = let d = c.decimal_length in
    put_aligned c.args.width c.args.n d.result d.ensures.0 c.put_blanks.ensures c.put_decimal.ensures
