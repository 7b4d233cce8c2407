-- The row that was read is rule 3's of the link.
use Rattle.rules_refill.proofs.Refills.{lent_of}
use Rattle.rules_refill.proofs.Refilling.{upper_of, upper_made}
use Rattle.rules_refill.proofs.refill.Refill.upper_in.Goals as goal

pub upper_row-requires : goal.upper_row-requires
upper_row-requires c = rw c.args.self.now.lent.rows_are c.requires.i_bound.0

pub propagate_row-requires-clause-row_of : goal.propagate_row-requires-clause-row_of
propagate_row-requires-clause-row_of c = upper_of (lent_of c.args.self.now c.requires.part_of) _ _ (rw c.args.self.now.lent.rows_are at c.upper_row.ensures) c.requires.i_bound.0 c.requires.i_bound.1

pub returns-clause-cells_value : goal.returns-clause-cells_value
returns-clause-cells_value c = upper_made (lent_of c.args.self.now c.requires.part_of) _ _ _ _ (rw c.args.self.now.lent.rows_are at c.upper_row.ensures) c.propagate_row.ensures.cells_value
