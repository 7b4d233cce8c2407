-- The place without the mask's bits lies no later in the part.
use mathlib.Core.Path.{refl, sym, ◌∙◌}
use native.Mathlib.Omega.{arith}
use Rattle.rules_fill.proofs.ShapeLaws.{cleared_le, clear_pass, clear_goes}
use Rattle.rules_fill.proofs.cells.clear_cell.Goals as goal

pub raise-requires : goal.raise-requires
raise-requires c = (omega (arith, c.cleared-rest.ensures, cleared_le c.args.place c.args.mask), omega arith)

pub returns-then-touches : goal.returns-then-touches
returns-then-touches c = record { part_value = clear_goes _ _ _ _ _ _ (sym c.touches.ensures ∙ c.if-touches.true) c.cleared-rest.ensures c.raise.ensures.part_value; same_length = c.raise.ensures.same_length }

pub returns-else-touches : goal.returns-else-touches
returns-else-touches c = record { part_value = clear_pass _ _ _ _ (sym c.touches.ensures ∙ c.if-touches.false); same_length = refl }
