-- The loop's invariant: the lines of the raised cells passed are written.
use mathlib.Core.Path.{◌≡◌}
use native.Mathlib.Omega.{arith}
use Rattle.plan.specs.Plan.{cells}
use Rattle.plan.specs.Layout.{plan_of}
use Rattle.plan.proofs.Ranges.{accepted_well_formed}
use Rattle.listing_write.proofs.RaisedLaws.{round_on, listed_start, room_left, listed_more}
use Rattle.listing_write.proofs.entries.list_cells.Goals as goal

pub loop-c-init : goal.loop-c-init
loop-c-init c = let s = c.args in
    let z = listed_start (plan_of s.plan.now) s.first.now s.second.now s.at s.out.now in
    (omega arith, z.0, z.1)

pub list_cell-i-requires : goal.list_cell-i-requires
list_cell-i-requires c = let l = c.loop-c in
    let d = c.requires.made in
    record { made = round_on c.args.plan.now c.args.marks.now c.args.horizon c.args.first.now c.args.second.now c.args.index.now c.args.out.now _ c.args.m c.args.at l.i _ l.invariant.1 l.invariant.2 d; room = omega (arith, room_left (plan_of c.args.plan.now) c.args.first.now c.args.second.now c.args.m c.args.at l.c (cells (plan_of c.args.plan.now)) (omega (arith, d.exact.first_length, l.invariant.0)) c.requires.room, l.invariant.1); inside = omega (arith, d.exact.first_length) }

pub loop-c-preserved : goal.loop-c-preserved
loop-c-preserved c = let l = c.loop-c in
    let k = c.list_cell-i in
    let z = listed_more (plan_of c.args.plan.now) c.args.first.now c.args.second.now (accepted_well_formed _ c.requires.made.exact.accepted) c.args.at l.i k.result l.c c.args.out.now l.out _ l.invariant.1 k.ensures.value l.invariant.2 k.ensures.appends in
    (omega arith, z.0, z.1)

pub shape_of-out : goal.shape_of-out
shape_of-out c = c.loop-c.invariant.2.as_long

pub returns : goal.returns
returns c = let l = c.loop-c in
    let e : l.c ≡ cells (plan_of c.args.plan.now) = omega (arith, c.requires.made.exact.first_length, l.invariant.0) in
    record { value = rw (← e) l.invariant.1; appends = rw (← e) l.invariant.2 }
