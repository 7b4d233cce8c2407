-- At another point than 0 the part stays, and so it does where no raised cell is over the horizon.
use mathlib.Core.Path.{refl}
use Rattle.rules_fill.proofs.ShapeLaws.{when_same, when_other}
use Rattle.rules_listed.proofs.Owning.{noted_of}
use Rattle.rules_refill.proofs.Refills.{lent_of}
use Rattle.rules_refill.proofs.HorizonIdle.{none_over_idle}
use Rattle.rules_refill.proofs.refill.Refill.horizon_at.Goals as goal

pub returns-then-part-ne0-clause-cells_value : goal.returns-then-part-ne0-clause-cells_value
returns-then-part-ne0-clause-cells_value c = when_other _ _ _ _ _ refl c.if-part-ne0.true

pub returns-then-over-clause-cells_value : goal.returns-then-over-clause-cells_value
returns-then-over-clause-cells_value c = when_same _ _ _ _ _ _ refl c.if-part-ne0.false c.fill_horizon.ensures.cells_value

pub returns-else-over-clause-cells_value : goal.returns-else-over-clause-cells_value
returns-else-over-clause-cells_value c = when_same _ _ _ _ _ _ refl c.if-part-ne0.false (none_over_idle (lent_of c.args.self.now c.requires.part_of) (noted_of c.requires.part_of.part_of) c.requires.none_over c.if-over.false c.if-part-ne0.false)
