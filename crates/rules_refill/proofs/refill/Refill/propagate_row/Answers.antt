-- The loop over the raised cells of the row's point is the row's: what else it would give is covered.
use Rattle.rules_listed.proofs.Lending.{propagate_counted}
use Rattle.rules_refill.proofs.Refilling.{propagate_lends}
use Rattle.rules_refill.proofs.refill.Refill.propagate_row.Goals as goal

pub propagate_raised-requires : goal.propagate_raised-requires
propagate_raised-requires c = record { propagate_lent = propagate_counted (propagate_lends c.args.self.now c.requires.part_of _ c.requires.row_of) }
