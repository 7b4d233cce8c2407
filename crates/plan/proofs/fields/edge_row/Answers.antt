-- `plan::fields::edge_row` meets its contract.
use borrow.Author.Rules.{rules}
use Rattle.plan.specs.Layout.{row_of_edge}
use Rattle.plan.proofs.fields.edge_row.Goals as goal

pub returns : goal.returns
unfolding row_of_edge
returns c = search rules
