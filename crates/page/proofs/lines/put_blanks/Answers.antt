-- The loop's invariant: the blanks passed are put.
use Rattle.std.proofs.Common.{rules}
use Rattle.page.proofs.LineLaws.{room_blank, put_blank}
use Rattle.page.proofs.lines.put_blanks.Goals as goal

pub put_byte-requires : goal.put_byte-requires
put_byte-requires c = let l = c.loop in
    room_blank c.args.count l.counter (search rules) c.requires l.invariant

pub loop-preserved : goal.loop-preserved
loop-preserved c = let l = c.loop in
    put_blank l.counter l.invariant c.put_byte.ensures
