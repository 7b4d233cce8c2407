-- The loop's invariant: the lines of the cells passed are put.
use mathlib.Core.Path.{◌≡◌}
use Prim.Native.Nat.{◌<◌}
use native.Mathlib.Omega.{arith}
use Rattle.plan.specs.Plan.{cells}
use Rattle.plan.specs.Layout.{plan_of}
use Rattle.plan.proofs.Ranges.{sizes_few}
use Rattle.text.specs.Joined.{joined}
use Rattle.text.proofs.Puts.{puts_none, puts_joined, room_joined}
use Rattle.page.specs.Page.{cell_text, page_of}
use Rattle.page.proofs.lines.put_page.Goals as goal

pub cells-c-end-requires : goal.cells-c-end-requires
cells-c-end-requires c = sizes_few c.args.plan.now c.requires.0.accepted

pub loop-c-init : goal.loop-c-init
unfolding joined
loop-c-init c = puts_none

pub put_cell-requires : goal.put_cell-requires
unfolding page_of
put_cell-requires c = let l = c.loop-c in
    let s = c.args in
    let h : l.c < cells (plan_of s.plan.now) = omega (arith, c.cells-c-end.ensures) in
    record { printable = (c.requires.0, h); text_fits = room_joined (cell_text (plan_of s.plan.now) s.table.now) (cells (plan_of s.plan.now)) l.c h c.requires.1 l.invariant }

pub loop-c-preserved : goal.loop-c-preserved
loop-c-preserved c = let l = c.loop-c in
    let s = c.args in
    puts_joined (cell_text (plan_of s.plan.now) s.table.now) l.c l.invariant c.put_cell.ensures

pub returns : goal.returns
unfolding page_of
returns c = let l = c.loop-c in
    let e : l.c ≡ c.cells-c-end.result = omega arith in
    rw (e, c.cells-c-end.ensures) at l.invariant
