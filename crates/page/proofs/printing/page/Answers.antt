-- The tests in their order, and then the page.
use mathlib.Core.Path.{◌≡◌, sym}
use mathlib.Core.Bool.{Bool, true}
use mathlib.Core.List.{List}
use Prim.Native.Nat.{ℕ, ◌≤◌}
use native.Mathlib.Omega.{arith}
use borrow.Author.Rules.{rules}
use lib.ListN.{length}
use Rattle.std.proofs.lemmas.Result.{err_from_is_err_and}
use Rattle.plan.specs.Plan.{cells}
use Rattle.plan.specs.Layout.{plan_of}
use Rattle.plan.specs.Refusal.{every}
use Rattle.plan.proofs.Ranges.{sizes_few, accepted_bounded}
use Rattle.plan.proofs.Tests.{denied, granted}
use Rattle.page.specs.Page.{above, wait_fits}
use Rattle.plan.proofs.CountLaws.{count_few}
use Rattle.text.proofs.Puts.{written}
use Rattle.page.proofs.AnswerLaws.{by_refusal, by_table, by_wait, by_room, printable, answered_printed}
use Rattle.page.proofs.PageLaws.{page_room}
use Rattle.page.proofs.printing.page.Goals as goal

-- what is known once the lines are counted
long : (bs T : List ℕ) {n : ℕ} → n ≡ cells (plan_of bs) → n ≤ length T → cells (plan_of bs) ≤ length T
long bs T e h = rw (← e) h

-- and once the waits fit
fit : (bs T : List ℕ) {n : ℕ} {r : Bool} → n ≡ cells (plan_of bs) → r ≡ every (wait_fits T) n → r ≡ true → every (wait_fits T) (cells (plan_of bs)) ≡ true
fit bs T e q t = rw (← e) (granted q t)

pub returns-in_err-refusal : goal.returns-in_err-refusal
returns-in_err-refusal c =
    let p = err_from_is_err_and c.from_residual.result c.from_residual.ensures.1 in
    rw (p.1, p.2) (by_refusal c.args.plan.now c.args.table.now c.args.out.now _ c.in_err-refusal.ensures)

pub cells-end-requires : goal.cells-end-requires
cells-end-requires c = sizes_few c.args.plan.now (sym c.in_ok-refusal.ensures)

pub returns-then-table-end : goal.returns-then-table-end
returns-then-table-end c = let s = c.args in
    by_table s.plan.now s.table.now s.out.now (sym c.in_ok-refusal.ensures) (rw (← c.cells-end.ensures) c.if-table-end.true)

pub overflow_mul-length : goal.overflow_mul-length
overflow_mul-length c = let s = c.args in
    record { fits = omega (arith, c.count_lines-length.ensures, count_few (above s.table.now) c.cells-end.result, c.cells-end.ensures, (accepted_bounded s.plan.now (sym c.in_ok-refusal.ensures)).cells_in) }

pub returns-then-not-fits : goal.returns-then-not-fits
returns-then-not-fits c = let s = c.args in
    by_wait s.plan.now s.table.now s.out.now (sym c.in_ok-refusal.ensures) (long s.plan.now s.table.now c.cells-end.ensures c.if-table-end.false) (rw (← c.cells-end.ensures) (denied c.waits_fit-fits.ensures c.if-not-fits.true))

pub returns-then-out-length : goal.returns-then-out-length
returns-then-out-length c = let s = c.args in
    by_room s.plan.now s.table.now s.out.now (sym c.in_ok-refusal.ensures) (long s.plan.now s.table.now c.cells-end.ensures c.if-table-end.false) (fit s.plan.now s.table.now c.cells-end.ensures c.waits_fit-fits.ensures c.if-not-fits.false) (rw (← c.cells-end.ensures, ← c.count_lines-length.ensures) c.if-out-length.true)

pub put_page-requires : goal.put_page-requires
put_page-requires c = let s = c.args in
    let p = printable s.plan.now s.table.now s.out.now (sym c.in_ok-refusal.ensures) (long s.plan.now s.table.now c.cells-end.ensures c.if-table-end.false) (fit s.plan.now s.table.now c.cells-end.ensures c.waits_fit-fits.ensures c.if-not-fits.false) in
    (p, page_room s.plan.now s.table.now p c.new-text.ensures.length_is)

pub returns : goal.returns
returns c = let s = c.args in
    answered_printed s.plan.now s.table.now s.out.now (sym c.in_ok-refusal.ensures) (long s.plan.now s.table.now c.cells-end.ensures c.if-table-end.false) (fit s.plan.now s.table.now c.cells-end.ensures c.waits_fit-fits.ensures c.if-not-fits.false) (rw (← c.cells-end.ensures, ← c.count_lines-length.ensures) c.if-out-length.false) (written c.new-text.ensures c.put_page.ensures c.length.ensures (search rules))
