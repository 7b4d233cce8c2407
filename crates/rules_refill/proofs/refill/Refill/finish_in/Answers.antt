-- At another point the part stays, and at the link's end rule 3 and the lower bound follow one another.
use mathlib.Core.Path.{sym, ap, ◌∙◌}
use Rattle.rules.specs.declared.Edge.TheVariants.{LowerBound}
use Rattle.rules_fill.specs.Shapes.{edge_in_step, fill_finish}
use Rattle.rules_fill.proofs.ShapeLaws.{when_same, when_other}
use Rattle.rules_listed.proofs.Going.{same_then}
use Rattle.rules_refill.specs.Refills.{whole, waits}
use Rattle.rules_refill.proofs.Refills.{still_in}
use Rattle.rules_refill.proofs.refill.Refill.finish_in.Goals as goal

pub finish-requires : goal.finish-requires
finish-requires c = rw c.args.self.now.lent.rows_are c.requires.i_bound

pub returns-then-finish-part-clause-cells_value : goal.returns-then-finish-part-clause-cells_value
unfolding fill_finish
returns-then-finish-part-clause-cells_value c = when_other _ _ _ _ _ (rw c.args.self.now.lent.rows_are at c.finish.ensures) c.if-finish-part.true

pub upper_in-requires : goal.upper_in-requires
upper_in-requires c = record { part_of = c.requires.part_of; i_bound = (c.requires.i_bound, sym (rw c.args.self.now.lent.rows_are at c.finish.ensures) ∙ c.if-finish-part.false) }

pub lower_bound_in-requires : goal.lower_bound_in-requires
lower_bound_in-requires c = let s = c.upper_in.ensures.same_part in
    record { part_of = still_in c.requires.part_of s; i_bound = (c.requires.i_bound, sym (rw c.args.self.now.lent.rows_are at c.finish.ensures) ∙ c.if-finish-part.false ∙ sym s.point) }

pub returns : goal.returns
unfolding fill_finish
returns c = let r = c.args.self.now in
    record {
      cells_value = when_same _ _ _ _ _ _ (rw c.args.self.now.lent.rows_are at c.finish.ensures) c.if-finish-part.false (c.lower_bound_in.ensures.cells_value ∙ ap (edge_in_step (whole r) (waits r) (LowerBound c.args.i)) c.upper_in.ensures.cells_value);
      same_part = same_then c.upper_in.ensures.same_part c.lower_bound_in.ensures.same_part;
    }
