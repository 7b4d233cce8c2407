-- The row that was read is that of the link's upper bound.
use mathlib.Core.Path.{refl}
use Rattle.rules.specs.declared.Edge.TheVariants.{UpperBound}
use Rattle.rules_refill.proofs.Refills.{lent_of}
use Rattle.rules_refill.proofs.Refilling.{edge_of, edge_made}
use Rattle.rules_refill.proofs.refill.Refill.upper_bound_in.Goals as goal

pub upper_bound_row-requires : goal.upper_bound_row-requires
upper_bound_row-requires c = rw c.args.self.now.lent.rows_are c.requires.i_bound.0

pub propagate_row-requires-clause-row_of : goal.propagate_row-requires-clause-row_of
propagate_row-requires-clause-row_of c = edge_of (lent_of c.args.self.now c.requires.part_of) (UpperBound c.args.i) _ (rw c.args.self.now.lent.rows_are at c.upper_bound_row.ensures) refl c.requires.i_bound.0 c.requires.i_bound.1

pub returns-clause-cells_value : goal.returns-clause-cells_value
returns-clause-cells_value c = edge_made (lent_of c.args.self.now c.requires.part_of) _ _ (UpperBound c.args.i) _ (rw c.args.self.now.lent.rows_are at c.upper_bound_row.ensures) refl c.propagate_row.ensures.cells_value
