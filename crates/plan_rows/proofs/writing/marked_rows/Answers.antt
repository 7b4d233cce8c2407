-- The loop's invariant: the rows with mark 1 among those passed are listed.
use mathlib.Core.Path.{◌≡◌}
use native.Mathlib.Omega.{arith}
use lib.ListN.{length, take}
use lib.Seq.{length-take-le, take_all}
use Rattle.plan_rows.proofs.Listed.{listed_none, listed_more, listed_same}
use Rattle.plan_rows.proofs.writing.marked_rows.Goals as goal
use Rattle.plan_rows.proofs.writing.marked_rows.Goals.{then-mark-eq1, else-mark-eq1}

pub loop-i-init : goal.loop-i-init
loop-i-init c = listed_none _ _

pub loop-i-preserved : goal.loop-i-preserved
loop-i-preserved c =
    let l = c.loop-i.invariant in
    let e = length-take-le c.args.n c.args.marks.now c.requires.0 in
    elim c.if-mark-eq1.branch [
      | then-mark-eq1 w ↦ listed_more l (omega arith) (omega (arith, e)) w.if-mark-eq1.true w.numbers-is w.count-is
      | else-mark-eq1 w ↦ listed_same l (omega arith) w.if-mark-eq1.false w.numbers-is w.count-is
    ]

pub returns : goal.returns
returns c =
    let ms = take c.args.n c.args.marks.now in
    let e : c.loop-i.i ≡ length ms = omega arith in
    let b = rw (e, take_all (length ms) ms (omega arith)) at c.loop-i.invariant.begun in
    record { value = b.count_is; numbers_value = b.now_is; same_length = b.length_is }
