-- The loop's invariant: the lines of the points passed are listed.
use native.Mathlib.Omega.{arith}
use Rattle.rounds_tables.proofs.RoundLaws.{row_within}
use Rattle.rounds_tables.proofs.ListLaws.{lined_none, lined_more, all_listed}
use Rattle.rounds_tables.proofs.lines.list_lines.Goals as goal

pub loop-y-init : goal.loop-y-init
loop-y-init c = (omega arith, lined_none _ _ _ _)

pub list_point-n-requires : goal.list_point-n-requires
list_point-n-requires c = let row = row_within c.loop-y.y c.args.points c.args.width c.loop-y-test.true in
    record { few = omega arith; narrow = c.requires.3; long_table = omega arith; lists_long = omega arith }

pub loop-y-preserved : goal.loop-y-preserved
loop-y-preserved c = (omega arith, lined_more _ _ _ _ _ _ _ _ _ (omega arith) c.loop-y.invariant.1 c.list_point-n.ensures.listed_point c.list_point-n.ensures.same_length)

pub returns : goal.returns
returns c = let l = c.loop-y in
    record { all_listed = all_listed _ _ _ _ _ l.y _ _ (omega arith) l.invariant.1; same_length = (l.invariant.1.lists_long, l.invariant.1.counts_long) }
