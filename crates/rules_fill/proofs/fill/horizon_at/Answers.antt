-- At another point than 0 the part stays.
use mathlib.Core.Path.{refl}
use Rattle.rules_fill.proofs.ShapeLaws.{when_same, when_other}
use Rattle.rules_fill.proofs.fill.horizon_at.Goals as goal

pub returns-then-x-ne0 : goal.returns-then-x-ne0
returns-then-x-ne0 c = record { part_value = when_other _ _ _ _ _ refl c.if-x-ne0.true; same_length = refl }

pub returns : goal.returns
returns c = record { part_value = when_same _ _ _ _ _ _ refl c.if-x-ne0.false c.fill_horizon.ensures.part_value; same_length = c.fill_horizon.ensures.same_length }
