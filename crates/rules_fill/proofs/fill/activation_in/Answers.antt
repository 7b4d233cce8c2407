-- At another point the part stays, and at the link's activation rule 2 and the upper bound follow one another.
use mathlib.Core.Path.{refl, ap, ◌∙◌}
use Rattle.plan.specs.Horizons.{plan_with}
use Rattle.plan.proofs.Ranges.{link_byte}
use Rattle.rules.specs.declared.Edge.TheVariants.{UpperBound}
use Rattle.rules_fill.specs.Shapes.{lower_in, edge_in_step, fill_activation}
use Rattle.rules_fill.proofs.ShapeLaws.{when_same, when_other}
use Rattle.rules_fill.proofs.Lending.{rows_on}
use Rattle.rules_fill.proofs.fill.activation_in.Goals as goal

pub link_activation-requires : goal.link_activation-requires
link_activation-requires c = link_byte c.args.plan.now c.requires.rows_lent.lent.accepted _ c.requires.i_bound

pub returns-then-link_activation-x : goal.returns-then-link_activation-x
unfolding fill_activation
returns-then-link_activation-x c = record { part_value = when_other _ _ _ _ _ c.link_activation.ensures.0 c.if-link_activation-x.true; same_length = refl }

pub lower_in-requires : goal.lower_in-requires
lower_in-requires c = (c.requires.rows_lent, c.requires.i_bound)

pub edge_in-requires : goal.edge_in-requires
edge_in-requires c = record { rows_lent = rows_on _ _ _ _ _ _ _ c.requires.rows_lent c.lower_in.ensures.same_length; in_plan = c.requires.i_bound }

pub returns : goal.returns
unfolding fill_activation lower_in
returns c = let s = c.args in
    record { part_value = when_same _ _ _ _ _ _ c.link_activation.ensures.0 c.if-link_activation-x.false (c.edge_in.ensures.part_value ∙ ap (edge_in_step (plan_with s.plan.now s.horizon) s.first.now (UpperBound s.i)) c.lower_in.ensures.part_value); same_length = c.edge_in.ensures.same_length ∙ c.lower_in.ensures.same_length }
