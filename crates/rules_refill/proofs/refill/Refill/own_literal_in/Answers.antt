-- At another point the part stays; at the observing point the loop over its raised cells is the proposition's, and what else it would give is covered.
use mathlib.Core.Path.{sym, ◌∙◌}
use Rattle.rules_fill.specs.Shapes.{fill_own_literal}
use Rattle.rules_fill.proofs.ShapeLaws.{when_same, when_other}
use Rattle.rules_listed.proofs.Lending.{clear_counted}
use Rattle.rules_refill.proofs.Refills.{lent_of}
use Rattle.rules_refill.proofs.Refilling.{propositions_few, clear_lends, own_made}
use Rattle.rules_refill.proofs.refill.Refill.own_literal_in.Goals as goal

pub observer-requires : goal.observer-requires
observer-requires c = rw c.args.self.now.lent.rows_are c.requires.j_bound

pub returns-then-observer-part-clause-cells_value : goal.returns-then-observer-part-clause-cells_value
unfolding fill_own_literal
returns-then-observer-part-clause-cells_value c = when_other _ _ _ _ _ (rw c.args.self.now.lent.rows_are at c.observer.ensures) c.if-observer-part.true

pub digit_mask-requires : goal.digit_mask-requires
digit_mask-requires c = propositions_few (lent_of c.args.self.now c.requires.part_of) _ c.requires.j_bound

pub clear_raised-requires : goal.clear_raised-requires
clear_raised-requires c = record { clear_lent = clear_counted (clear_lends c.args.self.now c.requires.part_of _ c.requires.j_bound (sym (rw c.args.self.now.lent.rows_are at c.observer.ensures) ∙ c.if-observer-part.false) _ c.digit_mask.ensures) }

pub returns-clause-cells_value : goal.returns-clause-cells_value
unfolding fill_own_literal
returns-clause-cells_value c = when_same _ _ _ _ _ _ (rw c.args.self.now.lent.rows_are at c.observer.ensures) c.if-observer-part.false (own_made (lent_of c.args.self.now c.requires.part_of) _ _ _ _ c.digit_mask.ensures c.clear_raised.ensures.cells_value)
