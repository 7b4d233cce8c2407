-- The row that was read is rule 2's of the link.
use Rattle.rules_refill.proofs.Refills.{lent_of}
use Rattle.rules_refill.proofs.Refilling.{lower_of, lower_made}
use Rattle.rules_refill.proofs.refill.Refill.lower_in.Goals as goal

pub lower_row-requires : goal.lower_row-requires
lower_row-requires c = rw c.args.self.now.lent.rows_are c.requires.i_bound.0

pub propagate_row-requires-clause-row_of : goal.propagate_row-requires-clause-row_of
propagate_row-requires-clause-row_of c = lower_of (lent_of c.args.self.now c.requires.part_of) _ _ (rw c.args.self.now.lent.rows_are at c.lower_row.ensures) c.requires.i_bound.0 c.requires.i_bound.1

pub returns-clause-cells_value : goal.returns-clause-cells_value
returns-clause-cells_value c = lower_made (lent_of c.args.self.now c.requires.part_of) _ _ _ _ (rw c.args.self.now.lent.rows_are at c.lower_row.ensures) c.propagate_row.ensures.cells_value
