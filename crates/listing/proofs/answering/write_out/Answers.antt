-- The first cells of the tables and the first bytes of the output are lent; what comes back is the listing.
use Prim.Native.Nat.{◌+◌, ◌*◌}
use Rattle.plan.specs.Layout.{plan_of}
use Rattle.plan.proofs.Ranges.{sizes_few}
use Rattle.listing.proofs.AnswerLaws.{listing_left, listing_bytes}
use Rattle.listing.proofs.answering.write_out.Goals as goal

pub cells-end-requires : goal.cells-end-requires
cells-end-requires c = sizes_few c.args.plan.now c.requires.0.tables.accepted

pub returns-clause-listing_left : goal.returns-clause-listing_left
returns-clause-listing_left c = let e = c.cells-end in let w = c.write_listing.ensures in
    listing_left c.args.plan.now c.args.first.now c.args.second.now c.args.r e.result c.requires.0.tables e.ensures (2 + 14 * c.args.m) c.args.index.now c.args.out.now _ _ c.requires.0.long_index (listing_bytes (plan_of c.args.plan.now) c.args.r c.args.m c.requires.1) c.requires.3 w.index_value w.listing w.same_length_4
