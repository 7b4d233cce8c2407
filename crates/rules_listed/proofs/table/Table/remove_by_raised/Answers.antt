-- The loop's invariant: the steps of the other point's raised cells passed are made.
use mathlib.Core.Path.{sym, subst, ◌∙◌}
use native.Mathlib.Omega.{arith}
use Rattle.rules_listed.specs.Rows.{LinesRow}
use Rattle.rules_listed.proofs.Going.{place_in, cell_of, going_none, going_on, going_past, gone}
use Rattle.rules_listed.proofs.Lending.{still_lent}
use Rattle.rules_listed.proofs.Removing.{other_goes, other_pass}
use Rattle.rules_listed.proofs.table.Table.remove_by_raised.Goals.{then-not-touches, else-not-touches}
use Rattle.rules_listed.proofs.table.Table.remove_by_raised.Goals as goal

pub loop-u-init : goal.loop-u-init
loop-u-init c = going_none

pub remove_from_lines-requires : goal.remove_from_lines-requires
remove_from_lines-requires c = let l = c.requires.remove_lent in
    let u = c.from-u in
    let p = place_in c.requires.rows.0.places c.raised-u-items.ensures _ _ c.loop-u-test.true u.ensures in
    record { remove_lent = (still_lent l c.loop-u.invariant.same, p, omega arith, sym c.touches.ensures ∙ c.if-not-touches.true); lines = subst (LinesRow c.args.self.now) (sym c.loop-u.invariant.same.point) c.requires.rows.1 }

pub loop-u-preserved : goal.loop-u-preserved
loop-u-preserved c = let t = c.args.self.now in
    let g = c.loop-u.invariant in
    let u = c.from-u in
    let p = place_in c.requires.rows.0.places c.raised-u-items.ensures _ _ c.loop-u-test.true u.ensures in
    elim c.if-not-touches.branch [
      | then-not-touches w ↦ rw w.part-is (going_on g _ u.ensures (other_goes _ _ _ _ _ _ _ _ _ _ (sym c.touches.ensures ∙ w.if-not-touches.true) (cell_of t c.args.by.other _ _ c.cells-other.ensures p w.from.ensures) (rw g.same.point at w.remove_from_lines.ensures.cells_value)) w.remove_from_lines.ensures.same_part)
      | else-not-touches w ↦ rw w.part-is (going_past g _ u.ensures (other_pass _ _ _ _ _ _ _ _ (sym c.touches.ensures ∙ w.if-not-touches.false)))
    ]

pub returns-clause-cells_value : goal.returns-clause-cells_value
returns-clause-cells_value c = gone c.loop-u.invariant _ _ _ c.raised-u-items.ensures c.requires.rows.0.places.long (omega (arith, c.loop-u-test.false, c.loop-u.auto.u-index-end))
