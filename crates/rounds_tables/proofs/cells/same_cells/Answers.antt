-- The loops' invariants: the cells passed agree, and a point's row lies within the tables.
use mathlib.Core.Path.{◌≡◌, refl, sym, ◌∙◌}
use Prim.Native.Nat.{◌+◌, ◌*◌}
use native.Mathlib.Nat.{zero-mul, add-zero, add_assoc}
use native.Mathlib.Omega.{arith}
use Rattle.rounds_tables.proofs.Comparing.{eq_same}
use Rattle.rounds_tables.proofs.RoundLaws.{alike_more, differs_at, row_within, compared_most, point_passed}
use Rattle.rounds_tables.proofs.cells.same_cells.Goals as goal

pub walk-init : goal.walk-init
walk-init c = (omega arith, refl, simp zero-mul)

pub to_compare-end-requires : goal.to_compare-end-requires
to_compare-end-requires c = omega (arith, c.walk-test.true, c.requires.points_bound.0)

pub loop-t-init : goal.loop-t-init
loop-t-init c = let w = c.walk in
    let s = c.args in
    (omega arith, compared_most c.to_compare-end.ensures, row_within w.x s.points s.width c.walk-test.true, w.invariant.1, simp add-zero w.invariant.2)

pub loop-t-preserved : goal.loop-t-preserved
loop-t-preserved c = let l = c.loop-t in
    let x = c.walk.x in
    let s = c.args in
    (omega arith, l.invariant.1, l.invariant.2, l.invariant.3, simp add_assoc at (alike_more s.first.now s.second.now (x * s.width + l.t) (omega arith) (omega arith) l.invariant.4 c.if-first-start.false))

pub walk-preserved : goal.walk-preserved
walk-preserved c = let l = c.loop-t in
    let x = c.walk.x in
    let s = c.args in
    (omega arith, l.invariant.3, point_passed s.first.now s.second.now s.points s.width s.set x _ l.t c.requires.same_outside c.walk-test.true (omega arith) (omega arith) c.to_compare-end.ensures (omega arith) l.invariant.4)

pub returns-after-walk : goal.returns-after-walk
returns-after-walk c = let w = c.walk in
    let s = c.args in
    let e : w.x ≡ s.points = omega arith in
    w.invariant.1 ∙ sym (eq_same _ _ (simp e at w.invariant.2))

pub returns-then-first-start : goal.returns-then-first-start
returns-then-first-start c = let l = c.loop-t in
    let x = c.walk.x in
    let s = c.args in
    sym (differs_at s.first.now s.second.now (s.points * s.width) (x * s.width + l.t) (omega arith) c.if-first-start.true)
