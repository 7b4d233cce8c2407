-- At another point the part stays, and at the link's end rule 3 and the lower bound follow one another.
use mathlib.Core.Path.{refl, ap, ◌∙◌}
use Rattle.plan.specs.Horizons.{plan_with}
use Rattle.plan.proofs.Ranges.{link_byte}
use Rattle.rules.specs.declared.Edge.TheVariants.{LowerBound}
use Rattle.rules_fill.specs.Shapes.{upper_in, edge_in_step, fill_finish}
use Rattle.rules_fill.proofs.ShapeLaws.{when_same, when_other}
use Rattle.rules_fill.proofs.Lending.{rows_on}
use Rattle.rules_fill.proofs.fill.finish_in.Goals as goal

pub link_finish-requires : goal.link_finish-requires
link_finish-requires c = link_byte c.args.plan.now c.requires.rows_lent.lent.accepted _ c.requires.i_bound

pub returns-then-link_finish-x : goal.returns-then-link_finish-x
unfolding fill_finish
returns-then-link_finish-x c = record { part_value = when_other _ _ _ _ _ c.link_finish.ensures.0 c.if-link_finish-x.true; same_length = refl }

pub upper_in-requires : goal.upper_in-requires
upper_in-requires c = (c.requires.rows_lent, c.requires.i_bound)

pub edge_in-requires : goal.edge_in-requires
edge_in-requires c = record { rows_lent = rows_on _ _ _ _ _ _ _ c.requires.rows_lent c.upper_in.ensures.same_length; in_plan = c.requires.i_bound }

pub returns : goal.returns
unfolding fill_finish upper_in
returns c = let s = c.args in
    record { part_value = when_same _ _ _ _ _ _ c.link_finish.ensures.0 c.if-link_finish-x.false (c.edge_in.ensures.part_value ∙ ap (edge_in_step (plan_with s.plan.now s.horizon) s.first.now (LowerBound s.i)) c.upper_in.ensures.part_value); same_length = c.edge_in.ensures.same_length ∙ c.upper_in.ensures.same_length }
