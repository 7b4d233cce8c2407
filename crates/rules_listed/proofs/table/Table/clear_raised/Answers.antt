-- The loop's invariant: the steps of the raised cells passed are made.
use mathlib.Core.Path.{refl, sym, ◌∙◌}
use Prim.Native.Nat.{◌≤◌}
use native.Mathlib.Omega.{arith}
use Rattle.rules_fill.proofs.ShapeLaws.{cleared_le, clear_pass, clear_goes, clear_step}
use Rattle.rules_listed.proofs.Going.{raised_cut, place_in, cell_of, own_long, place_fits, cells_long, going_none, going_on, going_past, gone}
use Rattle.rules_listed.proofs.Rests.{clear_all}
use Rattle.rules_listed.proofs.table.Table.clear_raised.Goals.{then-touches, else-touches}
use Rattle.rules_listed.proofs.table.Table.clear_raised.Goals as goal

pub loop-c-init : goal.loop-c-init
loop-c-init c = going_none

pub bounds-own-c : goal.bounds-own-c
bounds-own-c c = let l = c.requires.clear_lent in
    omega (arith, own_long l.part_of, place_in l.raised (raised_cut c.args.self.now c.args.part.now.point c.args.n) _ _ c.loop-c-test.true c.from-c.ensures)

pub raise-requires : goal.raise-requires
raise-requires c = let l = c.requires.clear_lent.part_of in
    let u = c.from-c in
    let p = place_in c.requires.clear_lent.raised (raised_cut c.args.self.now c.args.part.now.point c.args.n) _ _ c.loop-c-test.true u.ensures in
    let q : c.cleared.result ≤ u.result = rw c.cleared.ensures (cleared_le _ _) in
    record { place_in = (place_fits l c.loop-c.invariant.same _ (omega (arith, p, q, c.cleared.ensures)), omega arith) }

pub loop-c-preserved : goal.loop-c-preserved
loop-c-preserved c = let t = c.args.self.now in
    let g = c.loop-c.invariant in
    let l = c.requires.clear_lent.part_of in
    let u = c.from-c in
    let x = c.args.part.now.point in
    let p = place_in c.requires.clear_lent.raised (raised_cut c.args.self.now c.args.part.now.point c.args.n) _ _ c.loop-c-test.true u.ensures in
    elim c.if-touches.branch [
      | then-touches w ↦ rw w.part-is (going_on g _ u.ensures (clear_step _ _ _ _ _ _ _ _ (cell_of t x _ _ l.own_is p w.from.ensures) (clear_goes _ _ _ _ _ _ (sym c.touches.ensures ∙ w.if-touches.true) w.cleared.ensures w.raise.ensures.cells_value)) w.raise.ensures.same_part)
      | else-touches w ↦ rw w.part-is (going_past g _ u.ensures (clear_step _ _ _ _ _ _ _ _ refl (clear_pass _ _ _ _ (sym c.touches.ensures ∙ w.if-touches.false))))
    ]

pub returns-clause-cells_value : goal.returns-clause-cells_value
returns-clause-cells_value c = let l = c.requires.clear_lent in
    let p = l.raised in
    clear_all _ _ _ _ _ _ _ _ (cells_long l.part_of) p l.rest (gone c.loop-c.invariant _ _ _ (raised_cut c.args.self.now c.args.part.now.point c.args.n) p.long (omega (arith, c.loop-c-test.false, c.loop-c.auto.c-index-end)))
