-- At another point the part stays, and at the observing point the loop over cells is the proposition's.
use mathlib.Core.Path.{refl}
use native.Mathlib.Omega.{arith}
use Rattle.plan.specs.Layout.{plan_of}
use Rattle.plan.proofs.Ranges.{proposition_byte, accepted_bounded}
use Rattle.rules_fill.specs.Shapes.{fill_own_literal, own_literal_in}
use Rattle.rules_fill.proofs.ShapeLaws.{clear_by, row_in, when_same, when_other}
use Rattle.rules_fill.proofs.fill.own_literal_in.Goals as goal

pub observer-requires : goal.observer-requires
observer-requires c = proposition_byte c.args.plan.now c.requires.0.lent.accepted _ c.requires.1

pub returns-then-observer-x : goal.returns-then-observer-x
unfolding fill_own_literal
returns-then-observer-x c = record { part_value = when_other _ _ _ _ _ c.observer.ensures.0 c.if-observer-x.true; same_length = refl }

pub digit_mask-requires : goal.digit_mask-requires
digit_mask-requires c = omega (arith, (accepted_bounded c.args.plan.now c.requires.0.lent.accepted).propositions_in)

pub clear_in-requires : goal.clear_in-requires
clear_in-requires c = (row_in (plan_of c.args.plan.now) c.args.x _ _ _ c.requires.0.point_in c.requires.0.lent.long_first c.requires.0.width_is refl, rw c.requires.0.width_is c.requires.0.lent.long_part)

pub returns : goal.returns
unfolding fill_own_literal own_literal_in
returns c = record { part_value = when_same _ _ _ _ _ _ c.observer.ensures.0 c.if-observer-x.false (clear_by _ _ _ _ _ _ _ _ c.requires.0.width_is c.digit_mask.ensures c.clear_in.ensures.part_value); same_length = c.clear_in.ensures.same_length }
