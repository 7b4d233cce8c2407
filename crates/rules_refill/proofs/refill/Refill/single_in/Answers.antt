-- The rules of a link, or of a proposition.
use Rattle.rules_refill.proofs.Removals.{single_by_link, single_by_own}
use Rattle.rules_refill.proofs.refill.Refill.single_in.Goals as goal

pub returns-then-r-k-clause-cells_value : goal.returns-then-r-k-clause-cells_value
returns-then-r-k-clause-cells_value c = single_by_link _ _ _ _ _ _ _ c.links-k.ensures.0 c.if-r-k.true c.link_in.ensures.cells_value

pub returns-else-r-k-clause-cells_value : goal.returns-else-r-k-clause-cells_value
returns-else-r-k-clause-cells_value c = single_by_own _ _ _ _ _ _ _ c.links-k.ensures.0 c.if-r-k.false c.own_literal_in.ensures.cells_value
