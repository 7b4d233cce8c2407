-- The loop's invariant: the steps of the other point's lines passed are made.
use mathlib.Core.Path.{sym, ◌∙◌}
use Prim.Native.Nat.{◌≤◌, ◌<◌}
use native.Mathlib.Omega.{arith}
use lib.Bits.{bit_or}
use Rattle.rules_fill.proofs.ShapeLaws.{removed_le, remove_step_lem, remove_pass}
use Rattle.rules_listed.proofs.Going.{place_in, cell_of, place_fits, going_none, going_on, going_past, gone}
use Rattle.rules_listed.proofs.table.Table.remove_with.Goals.{then-not-touches, else-not-touches}
use Rattle.rules_listed.proofs.table.Table.remove_with.Goals as goal

pub loop-u-init : goal.loop-u-init
loop-u-init c = going_none

pub raise-requires : goal.raise-requires
raise-requires c = let t = c.args.self.now in
    let l = c.requires.remove_lent in
    let u = c.from-u in
    let p = place_in c.requires.lines.places c.lines-u-items.ensures _ _ c.loop-u-test.true u.ensures in
    let j : bit_or c.args.place u.result < t.width = l.0.joins c.args.place u.result l.1 p in
    let v : c.removed-w.result ≤ c.args.wait = rw c.removed-w.ensures (removed_le _ _ _ _ _) in
    record { place_in = (place_fits l.0.part_of c.loop-u.invariant.same _ (omega (arith, j, c.joined.ensures)), omega (arith, v, l.2)) }

pub loop-u-preserved : goal.loop-u-preserved
loop-u-preserved c = let t = c.args.self.now in
    let g = c.loop-u.invariant in
    let u = c.from-u in
    let p = place_in c.requires.lines.places c.lines-u-items.ensures _ _ c.loop-u-test.true u.ensures in
    elim c.if-not-touches.branch [
      | then-not-touches w ↦ rw w.part-is (going_on g _ u.ensures (remove_step_lem _ _ _ _ _ _ _ _ _ _ _ _ (cell_of t c.args.by.other _ _ c.cells-other.ensures p w.from.ensures) w.removed-w.ensures (rw w.joined.ensures at w.raise.ensures.cells_value)) w.raise.ensures.same_part)
      | else-not-touches w ↦ rw w.part-is (going_past g _ u.ensures (remove_pass _ _ _ _ _ _ _ _ _ (sym c.touches.ensures ∙ w.if-not-touches.false)))
    ]

pub returns-clause-cells_value : goal.returns-clause-cells_value
returns-clause-cells_value c = gone c.loop-u.invariant _ _ _ c.lines-u-items.ensures c.requires.lines.places.long (omega (arith, c.loop-u-test.false, c.loop-u.auto.u-index-end))
