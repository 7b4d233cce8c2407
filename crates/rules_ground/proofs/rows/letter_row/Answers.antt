-- `rules_ground::rows::letter_row` meets its contract: the link's number fits a byte.
use Rattle.plan.proofs.Ranges.{link_byte}
use Rattle.rules_ground.proofs.rows.letter_row.Goals as goal

pub link_activation-requires : goal.link_activation-requires
link_activation-requires c = link_byte _ c.requires.0 _ c.requires.1

pub link_least-requires : goal.link_least-requires
link_least-requires c = link_byte _ c.requires.0 _ c.requires.1
