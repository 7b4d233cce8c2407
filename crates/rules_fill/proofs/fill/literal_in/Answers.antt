-- The loop over cells is the proposition's.
use native.Mathlib.Omega.{arith}
use Rattle.plan.specs.Layout.{plan_of}
use Rattle.plan.proofs.Ranges.{accepted_well_formed}
use Rattle.rules_fill.proofs.ShapeLaws.{remove_by}
use Rattle.rules_fill.specs.Shapes.{literal_in}
use Rattle.rules_fill.proofs.Lending.{remove_lent}
use Rattle.rules_fill.proofs.Runs.{digit_run}
use Rattle.rules_fill.proofs.fill.literal_in.Goals as goal

pub literal_row-by-requires : goal.literal_row-by-requires
literal_row-by-requires c = (c.requires.0.lent.accepted, c.requires.1)

pub remove_in-requires : goal.remove_in-requires
remove_in-requires c = remove_lent _ _ _ _ _ _ _ _ _ c.requires.0 c.literal_row-by.ensures.other_is ((accepted_well_formed c.args.plan.now c.requires.0.lent.accepted).observer_in _ c.requires.1).1 c.literal_row-by.ensures.mask_is c.literal_row-by.ensures.low_is (digit_run (plan_of c.args.plan.now) _ c.requires.1) (omega (arith, c.literal_row-by.ensures.add_is))

pub returns : goal.returns
unfolding literal_in
returns c = record { part_value = remove_by _ _ _ _ _ _ _ _ _ _ _ _ c.requires.0.width_is c.literal_row-by.ensures.other_is c.literal_row-by.ensures.mask_is c.literal_row-by.ensures.add_is c.remove_in.ensures.part_value; same_length = c.remove_in.ensures.same_length }
