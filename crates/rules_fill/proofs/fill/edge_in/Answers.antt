-- The loop over cells is rule 1's of the edge.
use Rattle.plan.specs.Layout.{plan_of}
use Rattle.plan.proofs.Ranges.{accepted_well_formed}
use Rattle.rules.proofs.InRange.{edge_within}
use Rattle.rules_fill.specs.Shapes.{edge_in_step}
use Rattle.rules_fill.proofs.ShapeLaws.{propagate_by, label_in}
use Rattle.rules_fill.proofs.Lending.{propagate_lent}
use Rattle.rules_fill.proofs.fill.edge_in.Goals as goal

pub propagate_in-requires : goal.propagate_in-requires
propagate_in-requires c = let i = edge_within (plan_of c.args.plan.now) (accepted_well_formed _ c.requires.rows_lent.lent.accepted) c.args.horizon c.args.e c.requires.in_plan in
    propagate_lent _ _ _ _ _ _ _ _ _ c.requires.rows_lent c.edge_row-by.ensures.down_small c.edge_row-by.ensures.from_is i.to_in c.edge_row-by.ensures.add_is (label_in (plan_of c.args.plan.now) _ i.label_in)

pub returns : goal.returns
unfolding edge_in_step
returns c = let h = c.requires.rows_lent.numbers in
    record { part_value = propagate_by _ _ _ _ _ _ _ _ _ _ _ _ _ _ _ _ _ h.width_is h.mask_is c.edge_row-by.ensures.from_is c.edge_row-by.ensures.avoid_is c.edge_row-by.ensures.add_is c.edge_row-by.ensures.up_is c.edge_row-by.ensures.down_is c.propagate_in.ensures.part_value; same_length = c.propagate_in.ensures.same_length }
