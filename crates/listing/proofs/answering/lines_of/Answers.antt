-- An accepted plan has few links and propositions.
use Rattle.plan.proofs.Ranges.{sizes_few}
use Rattle.listing.proofs.answering.lines_of.Goals as goal

pub cells-end-requires : goal.cells-end-requires
cells-end-requires c = sizes_few c.args.plan.now c.requires.accepted
