-- The link's number fits a byte.
use Rattle.plan.proofs.Ranges.{link_byte}
use Rattle.rules_fill.proofs.rows.upper_row.Goals as goal

pub link_activation-requires : goal.link_activation-requires
link_activation-requires c = link_byte c.args.plan.now c.requires.0 _ c.requires.1

pub link_most-requires : goal.link_most-requires
link_most-requires c = link_byte c.args.plan.now c.requires.0 _ c.requires.1
