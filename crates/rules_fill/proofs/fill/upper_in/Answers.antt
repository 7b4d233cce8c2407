-- The loop over cells is rule 3's of the link.
use Rattle.plan.specs.Layout.{plan_of}
use Rattle.plan.proofs.Ranges.{accepted_well_formed}
use Rattle.rules_fill.specs.Shapes.{upper_in}
use Rattle.rules_fill.proofs.ShapeLaws.{propagate_by, link_in_lem}
use Rattle.rules_fill.proofs.Lending.{propagate_lent}
use Rattle.rules_fill.proofs.fill.upper_in.Goals as goal

pub propagate_in-requires : goal.propagate_in-requires
propagate_in-requires c = let P = plan_of c.args.plan.now in
    propagate_lent _ _ _ _ _ _ _ _ _ c.requires.0 c.upper_row-by.ensures.down_small c.upper_row-by.ensures.from_is ((accepted_well_formed c.args.plan.now c.requires.0.lent.accepted).activation_in _ c.requires.1) c.upper_row-by.ensures.add_is (link_in_lem P _ c.requires.1)

pub returns : goal.returns
unfolding upper_in
returns c = let h = c.requires.0.numbers in
    record { part_value = propagate_by _ _ _ _ _ _ _ _ _ _ _ _ _ _ _ _ _ h.width_is h.mask_is c.upper_row-by.ensures.from_is c.upper_row-by.ensures.avoid_is c.upper_row-by.ensures.add_is c.upper_row-by.ensures.up_is c.upper_row-by.ensures.down_is c.propagate_in.ensures.part_value; same_length = c.propagate_in.ensures.same_length }
