-- The loop's invariant: the steps of the lines of the part's point passed are made.
use mathlib.Core.Path.{sym, ◌∙◌}
use Prim.Native.Nat.{◌≤◌, ◌<◌}
use native.Mathlib.Omega.{arith}
use lib.Bits.{bit_or}
use Rattle.rules_fill.proofs.ShapeLaws.{cleared_le, removed_le}
use Rattle.rules_listed.proofs.Going.{place_in, cell_of, place_fits, going_none, going_on, going_past, gone}
use Rattle.rules_listed.proofs.Removing.{own_goes, own_pass}
use Rattle.rules_listed.proofs.table.Table.remove_from_lines.Goals.{then-touches, else-touches}
use Rattle.rules_listed.proofs.table.Table.remove_from_lines.Goals as goal

pub loop-c-init : goal.loop-c-init
loop-c-init c = going_none

pub raise-requires : goal.raise-requires
raise-requires c = let t = c.args.self.now in
    let l = c.requires.remove_lent in
    let u = c.from-c in
    let p = place_in c.requires.lines.places c.lines-c-items.ensures _ _ c.loop-c-test.true u.ensures in
    let q : c.cleared.result ≤ u.result = rw c.cleared.ensures (cleared_le _ _) in
    let j : bit_or c.cleared.result c.args.place < t.width = l.0.joins c.cleared.result c.args.place (omega (arith, p, q)) l.1 in
    let v : c.removed-w.result ≤ c.from.result = rw c.removed-w.ensures (removed_le _ _ _ _ _) in
    record { place_in = (place_fits l.0.part_of c.loop-c.invariant.same _ (omega (arith, j, c.joined.ensures)), omega (arith, v, c.from.ensures)) }

pub loop-c-preserved : goal.loop-c-preserved
loop-c-preserved c = let t = c.args.self.now in
    let g = c.loop-c.invariant in
    let l = c.requires.remove_lent.0.part_of in
    let u = c.from-c in
    let x = c.args.part.now.point in
    let p = place_in c.requires.lines.places c.lines-c-items.ensures _ _ c.loop-c-test.true u.ensures in
    elim c.if-touches.branch [
      | then-touches w ↦ rw w.part-is (going_on g _ u.ensures (own_goes _ _ _ _ _ _ _ _ _ _ _ _ (sym c.touches.ensures ∙ w.if-touches.true) (cell_of t x _ _ l.own_is p w.from.ensures) w.cleared.ensures w.removed-w.ensures (rw w.joined.ensures at w.raise.ensures.cells_value)) w.raise.ensures.same_part)
      | else-touches w ↦ rw w.part-is (going_past g _ u.ensures (own_pass _ _ _ _ _ _ _ _ (sym c.touches.ensures ∙ w.if-touches.false)))
    ]

pub returns-clause-cells_value : goal.returns-clause-cells_value
returns-clause-cells_value c = gone c.loop-c.invariant _ _ _ c.lines-c-items.ensures c.requires.lines.places.long (omega (arith, c.loop-c-test.false, c.loop-c.auto.c-index-end))
