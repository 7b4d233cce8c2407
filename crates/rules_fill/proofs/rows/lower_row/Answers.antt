-- The link's number fits a byte.
use Rattle.plan.proofs.Ranges.{link_byte}
use Rattle.rules_fill.proofs.rows.lower_row.Goals as goal

pub link_finish-requires : goal.link_finish-requires
link_finish-requires c = link_byte c.args.plan.now c.requires.0 _ c.requires.1

pub link_least-requires : goal.link_least-requires
link_least-requires c = link_byte c.args.plan.now c.requires.0 _ c.requires.1
