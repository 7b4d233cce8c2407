-- The head and the ground are the line.
use native.Mathlib.Omega.{arith}
use Rattle.plan.specs.Layout.{plan_of}
use Rattle.plan.proofs.Ranges.{accepted_well_formed}
use Rattle.listing_write.proofs.EntryBytes.{line_put}
use Rattle.listing_write.proofs.entry.put_line.Goals as goal

pub returns : goal.returns
returns c = let n = c.rule_number in
    let p = c.put_head in
    let w = c.row_number in
    let b = c.second_number in
    let g = c.put_ground in
    let r = c.requires.0 in
    line_put (plan_of c.args.plan.now) c.args.m c.args.i c.args.line c.args.ground n.result w.result b.result c.args.out.now _ _ (omega (arith, (accepted_well_formed c.args.plan.now r.accepted).two)) c.requires.1.row r.listing.count r.listing.long r.room n.ensures.0 w.ensures.0 b.ensures.0 p.ensures.out_value g.ensures.out_value
