-- The loop's invariant: the steps of the raised cells passed are made.
use Prim.Native.Nat.{◌+◌, ◌*◌, ◌≤◌, ◌<◌}
use native.Mathlib.Omega.{arith}
use lib.Bits.{bit_or}
use Rattle.rules_fill.proofs.ShapeLaws.{propagated_le, propagate_step_lem}
use Rattle.rules_listed.proofs.Going.{raised_cut, place_in, cell_in, cell_of, place_fits, cells_long, going_none, going_on, gone}
use Rattle.rules_listed.proofs.Rests.{propagate_all}
use Rattle.rules_listed.proofs.table.Table.propagate_raised.Goals as goal

pub loop-c-init : goal.loop-c-init
loop-c-init c = going_none

pub bounds-from-c : goal.bounds-from-c
bounds-from-c c = let l = c.requires.propagate_lent in
    cell_in c.args.self.now c.args.by.from _ l.from_in c.cells-from.ensures (place_in l.raised (raised_cut c.args.self.now c.args.by.from c.args.n) _ _ c.loop-c-test.true c.from-c.ensures)

pub raise-requires : goal.raise-requires
raise-requires c = let t = c.args.self.now in
    let l = c.requires.propagate_lent in
    let u = c.from-c in
    let p = place_in l.raised (raised_cut c.args.self.now c.args.by.from c.args.n) _ _ c.loop-c-test.true u.ensures in
    let j : bit_or u.result c.args.by.add < t.width = l.joins u.result p in
    let v : c.propagated-wait.result ≤ c.from.result + c.args.by.down = rw c.propagated-wait.ensures (propagated_le _ _ _ _ _ _ _) in
    let w = cell_of t c.args.by.from _ _ c.cells-from.ensures p c.from.ensures in
    record { place_in = (place_fits l.part_of c.loop-c.invariant.same _ (omega (arith, j, c.joined.ensures)), omega (arith, v, w, l.down_small, l.bound.cell (c.args.by.from * t.width + u.result))) }

pub loop-c-preserved : goal.loop-c-preserved
loop-c-preserved c = let t = c.args.self.now in
    let u = c.from-c in
    let p = place_in c.requires.propagate_lent.raised (raised_cut c.args.self.now c.args.by.from c.args.n) _ _ c.loop-c-test.true u.ensures in
    let e = propagate_step_lem _ _ _ _ _ _ _ _ _ _ _ _ _ (cell_of t c.args.by.from _ _ c.cells-from.ensures p c.from.ensures) c.propagated-wait.ensures (rw c.joined.ensures at c.raise.ensures.cells_value) in
    going_on c.loop-c.invariant _ u.ensures e c.raise.ensures.same_part

pub returns-clause-cells_value : goal.returns-clause-cells_value
returns-clause-cells_value c = let l = c.requires.propagate_lent in
    let p = l.raised in
    propagate_all _ _ _ _ _ _ _ _ l.joins (cells_long l.part_of) p l.rest (gone c.loop-c.invariant _ _ _ (raised_cut c.args.self.now c.args.by.from c.args.n) p.long (omega (arith, c.loop-c-test.false, c.loop-c.auto.c-index-end)))
