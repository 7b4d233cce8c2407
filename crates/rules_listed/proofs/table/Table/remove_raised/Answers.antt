-- The loop's invariant: the steps of the raised cells of the part's point passed are made.
use mathlib.Core.Path.{sym, ◌∙◌}
use Prim.Native.Nat.{◌≤◌}
use native.Mathlib.Omega.{arith}
use Rattle.rules_fill.proofs.ShapeLaws.{cleared_le}
use Rattle.rules_listed.proofs.Going.{place_in, cell_of, going_none, going_on, going_past, gone}
use Rattle.rules_listed.proofs.Lending.{still_lent}
use Rattle.rules_listed.proofs.Removing.{with_goes, with_pass}
use Rattle.rules_listed.proofs.table.Table.remove_raised.Goals.{then-touches, else-touches}
use Rattle.rules_listed.proofs.table.Table.remove_raised.Goals as goal

pub loop-c-init : goal.loop-c-init
loop-c-init c = going_none

pub remove_with-requires : goal.remove_with-requires
remove_with-requires c = let l = c.requires.remove_lent in
    let u = c.from-c in
    let p = place_in c.requires.rows.0.places c.raised-c-items.ensures _ _ c.loop-c-test.true u.ensures in
    let q : c.cleared-rest.result ≤ u.result = rw c.cleared-rest.ensures (cleared_le _ _) in
    record { remove_lent = (still_lent l c.loop-c.invariant.same, omega (arith, p, q), omega arith); lines = c.requires.rows.1 }

pub loop-c-preserved : goal.loop-c-preserved
loop-c-preserved c = let t = c.args.self.now in
    let g = c.loop-c.invariant in
    let l = c.requires.remove_lent in
    let u = c.from-c in
    let x = c.args.part.now.point in
    let p = place_in c.requires.rows.0.places c.raised-c-items.ensures _ _ c.loop-c-test.true u.ensures in
    elim c.if-touches.branch [
      | then-touches w ↦ rw w.part-is (going_on g _ u.ensures (with_goes _ _ _ _ _ _ _ _ _ _ _ (sym c.touches.ensures ∙ w.if-touches.true) (cell_of t x _ _ l.part_of.own_is p w.from.ensures) w.cleared-rest.ensures w.remove_with.ensures.cells_value) w.remove_with.ensures.same_part)
      | else-touches w ↦ rw w.part-is (going_past g _ u.ensures (with_pass _ _ _ _ _ _ _ _ (sym c.touches.ensures ∙ w.if-touches.false)))
    ]

pub returns-clause-cells_value : goal.returns-clause-cells_value
returns-clause-cells_value c = gone c.loop-c.invariant _ _ _ c.raised-c-items.ensures c.requires.rows.0.places.long (omega (arith, c.loop-c-test.false, c.loop-c.auto.c-index-end))
