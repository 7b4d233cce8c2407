-- `rules_ground::rows::edge_row` meets its contract: the row is what the edge says.
use Rattle.rules_ground.proofs.RowLaws.{constraint_row}
use Rattle.rules_ground.proofs.rows.edge_row.Goals as goal

pub returns : goal.returns
returns c = constraint_row _ _ _ _ c.requires.2 c.constraint_of-edge.ensures.value c.constraint_of-edge.ensures.label_bound.1
