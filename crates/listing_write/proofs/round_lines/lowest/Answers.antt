-- The loop's invariant: the cells passed were not raised.
use native.Mathlib.Omega.{arith}
use Rattle.listing_write.proofs.RoundLaws.{lowest_start, lowest_here, lowest_on, lowest_none}
use Rattle.listing_write.proofs.round_lines.lowest.Goals as goal

pub loop-c-init : goal.loop-c-init
loop-c-init c = (omega arith, lowest_start c.args.first.now c.args.second.now c.args.width)

pub returns-then-first-c : goal.returns-then-first-c
returns-then-first-c c = let l = c.loop-c in
    let s = c.args in
    lowest_here s.first.now s.second.now s.width l.c (omega arith) c.if-first-c.true l.invariant.1

pub loop-c-preserved : goal.loop-c-preserved
loop-c-preserved c = let l = c.loop-c in
    let s = c.args in
    (omega arith, lowest_on s.first.now s.second.now s.width l.c (omega arith) (omega (arith, c.if-first-c.false)) l.invariant.1)

pub returns : goal.returns
returns c = let l = c.loop-c in
    let s = c.args in
    lowest_none s.first.now s.second.now s.width l.c (omega arith) l.invariant.1
