-- The loop over cells is the link's.
use Rattle.plan.specs.Layout.{plan_of}
use Rattle.plan.proofs.Ranges.{accepted_well_formed}
use Rattle.rules_fill.proofs.ShapeLaws.{remove_by}
use Rattle.rules_fill.specs.Shapes.{letter_in}
use Rattle.rules_fill.proofs.Lending.{remove_lent}
use Rattle.rules_fill.proofs.Runs.{link_run}
use Rattle.rules_fill.proofs.fill.letter_in.Goals as goal

pub letter_row-by-requires : goal.letter_row-by-requires
letter_row-by-requires c = (c.requires.0.lent.accepted, c.requires.1)

pub remove_in-requires : goal.remove_in-requires
remove_in-requires c = remove_lent _ _ _ _ _ _ _ _ _ c.requires.0 c.letter_row-by.ensures.other_is ((accepted_well_formed c.args.plan.now c.requires.0.lent.accepted).activation_in _ c.requires.1) c.letter_row-by.ensures.mask_is c.letter_row-by.ensures.low_is (link_run (plan_of c.args.plan.now) _ c.requires.1) c.letter_row-by.ensures.add_small

pub returns : goal.returns
unfolding letter_in
returns c = record { part_value = remove_by _ _ _ _ _ _ _ _ _ _ _ _ c.requires.0.width_is c.letter_row-by.ensures.other_is c.letter_row-by.ensures.mask_is c.letter_row-by.ensures.add_is c.remove_in.ensures.part_value; same_length = c.remove_in.ensures.same_length }
