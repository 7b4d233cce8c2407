-- At another point the part stays, and at the link's activation rule 2 and the upper bound follow one another.
use mathlib.Core.Path.{sym, ap, ◌∙◌}
use Rattle.rules.specs.declared.Edge.TheVariants.{UpperBound}
use Rattle.rules_fill.specs.Shapes.{edge_in_step, fill_activation}
use Rattle.rules_fill.proofs.ShapeLaws.{when_same, when_other}
use Rattle.rules_listed.proofs.Going.{same_then}
use Rattle.rules_refill.specs.Refills.{whole, waits}
use Rattle.rules_refill.proofs.Refills.{still_in}
use Rattle.rules_refill.proofs.refill.Refill.activation_in.Goals as goal

pub activation-requires : goal.activation-requires
activation-requires c = rw c.args.self.now.lent.rows_are c.requires.i_bound

pub returns-then-activation-part-clause-cells_value : goal.returns-then-activation-part-clause-cells_value
unfolding fill_activation
returns-then-activation-part-clause-cells_value c = when_other _ _ _ _ _ (rw c.args.self.now.lent.rows_are at c.activation.ensures) c.if-activation-part.true

pub lower_in-requires : goal.lower_in-requires
lower_in-requires c = record { part_of = c.requires.part_of; i_bound = (c.requires.i_bound, sym (rw c.args.self.now.lent.rows_are at c.activation.ensures) ∙ c.if-activation-part.false) }

pub upper_bound_in-requires : goal.upper_bound_in-requires
upper_bound_in-requires c = let s = c.lower_in.ensures.same_part in
    record { part_of = still_in c.requires.part_of s; i_bound = (c.requires.i_bound, sym (rw c.args.self.now.lent.rows_are at c.activation.ensures) ∙ c.if-activation-part.false ∙ sym s.point) }

pub returns : goal.returns
unfolding fill_activation
returns c = let r = c.args.self.now in
    record {
      cells_value = when_same _ _ _ _ _ _ (rw c.args.self.now.lent.rows_are at c.activation.ensures) c.if-activation-part.false (c.upper_bound_in.ensures.cells_value ∙ ap (edge_in_step (whole r) (waits r) (UpperBound c.args.i)) c.lower_in.ensures.cells_value);
      same_part = same_then c.lower_in.ensures.same_part c.upper_bound_in.ensures.same_part;
    }
