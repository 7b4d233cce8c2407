-- The first table is cleared, the 16-bit table started and the number of lines written.
use Rattle.plan.specs.Layout.{plan_of}
use Rattle.plan.proofs.Ranges.{sizes_few}
use Rattle.listing_write.proofs.EntryBytes.{count_put}
use Rattle.listing_write.proofs.ExactTables.{clear_exact}
use Rattle.listing_write.proofs.round_lines.start_listing.Goals as goal

pub cells-end-requires : goal.cells-end-requires
cells-end-requires c = sizes_few c.args.plan.now c.requires.accepted

pub returns : goal.returns
returns c = let e = c.cells-end in
    record { first_value = clear_exact (plan_of c.args.plan.now) e.result c.args.first.now _ e.ensures c.requires.first_length c.clear_cells.ensures.table_value; index_value = c.start_index.ensures.index_value; out_value = count_put c.args.out.now _ c.args.m c.requires.long c.put_word.ensures.out_value; same_length = c.clear_cells.ensures.same_length; same_length_2 = c.start_index.ensures.same_length; same_length_3 = c.put_word.ensures.same_length }
