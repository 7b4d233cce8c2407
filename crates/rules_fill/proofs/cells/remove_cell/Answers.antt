-- A wait of 0 removes nothing, and the cleared place lies no later among the point's cells.
use mathlib.Core.Path.{refl, sym, ◌∙◌}
use Prim.Native.Nat.{◌≤◌}
use native.Mathlib.Omega.{arith}
use Rattle.rules_fill.proofs.ShapeLaws.{cleared_le, remove_cell_none, remove_cell_pass, remove_cell_goes}
use Rattle.rules_fill.proofs.cells.remove_cell.Goals as goal

pub returns-then-wait-eq0 : goal.returns-then-wait-eq0
returns-then-wait-eq0 c = record { part_value = remove_cell_none _ _ _ _ _ _ _ _ c.if-wait-eq0.true; same_length = refl }

pub returns-then-not-touches : goal.returns-then-not-touches
returns-then-not-touches c = record { part_value = remove_cell_pass _ _ _ _ _ _ _ _ (sym c.touches.ensures ∙ c.if-not-touches.true); same_length = refl }

pub remove_one-requires : goal.remove_one-requires
remove_one-requires c = let low : c.cleared-rest.result ≤ c.args.place = rw c.cleared-rest.ensures (cleared_le _ _) in
    (c.requires.0, λ u h. c.requires.1 c.cleared-rest.result u (omega (arith, low)) h, c.requires.3)

pub returns : goal.returns
returns c = record { part_value = remove_cell_goes _ _ _ _ _ _ _ _ _ _ (sym c.touches.ensures ∙ c.if-not-touches.false) c.cleared-rest.ensures c.remove_one.ensures.part_value; same_length = c.remove_one.ensures.same_length }
