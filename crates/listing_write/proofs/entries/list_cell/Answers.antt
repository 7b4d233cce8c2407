-- A cell that was not raised has no line.
use native.Mathlib.Omega.{arith}
use Rattle.plan.specs.Layout.{plan_of}
use Rattle.listing_write.proofs.RaisedLaws.{cell_passed, cell_listed}
use Rattle.listing_write.proofs.entries.list_cell.Goals as goal

pub bounds-second-c : goal.bounds-second-c
bounds-second-c c = omega (arith, c.requires.inside, c.requires.made.exact.second_length)

pub bounds-first-c : goal.bounds-first-c
bounds-first-c c = omega (arith, c.requires.inside, c.requires.made.exact.first_length)

pub returns-then-second-c : goal.returns-then-second-c
returns-then-second-c c =
    let r = cell_passed (plan_of c.args.plan.now) c.args.first.now c.args.second.now c.args.i c.args.c c.args.out.now c.if-second-c.true in
    record { value = r.0; appends = r.1 }

pub list_raised-requires : goal.list_raised-requires
list_raised-requires c = (c.requires, omega (arith, c.if-second-c.false))

pub shape_of-out : goal.shape_of-out
shape_of-out c = c.list_raised.ensures.as_long

pub returns : goal.returns
returns c =
    let r = cell_listed (plan_of c.args.plan.now) c.args.first.now c.args.second.now c.args.i c.args.c c.args.out.now _ (omega (arith, c.if-second-c.false)) c.list_raised.ensures in
    record { value = r.0; appends = r.1 }
