-- One cell more is counted at each turn; at the end all are.
use Rattle.std.proofs.Common.{◌≡◌, ◌∙◌, ap, sym, refl, ℕ, ◌+◌, ◌<◌, arith, length-take-le}
use Rattle.std.proofs.lemmas.List.{get_or-take}
use Rattle.plan.specs.Counting.{count}
use Rattle.plan.proofs.CountLaws.{count_few}
use Rattle.page.specs.Page.{above}
use Rattle.page.proofs.PageLaws.{line_counted, zero_passed}
use Rattle.page.proofs.printing.count_lines.Goals as goal
use Rattle.page.proofs.printing.count_lines.Goals.{then-cell-ne0, else-cell-ne0}

pub loop-cell-init : goal.loop-cell-init
unfolding count
loop-cell-init c = refl

pub overflow_add-lines : goal.overflow_add-lines
overflow_add-lines c = record { fits = omega (arith, c.loop-cell.invariant, count_few (above c.args.table.now) c.loop-cell.cell-index, c.loop-cell-test.true, length-take-le c.args.end c.args.table.now c.requires, c.ranges.end.fits) }

pub loop-cell-preserved : goal.loop-cell-preserved
loop-cell-preserved c =
    let T = c.args.table.now in
    let i = c.loop-cell.cell-index in
    let below : i < c.args.end = omega (arith, c.loop-cell-test.true, length-take-le c.args.end T c.requires) in
    let cell = get_or-take c.args.end T i 0 below in
    elim c.if-cell-ne0.branch [
      | then-cell-ne0 w ↦ w.lines-is ∙ ap (λ (k : ℕ). k + 1) c.loop-cell.invariant ∙ sym (line_counted T i (λ e. w.if-cell-ne0.true (cell ∙ e)))
      | else-cell-ne0 w ↦ w.lines-is ∙ c.loop-cell.invariant ∙ sym (zero_passed T i (sym cell ∙ w.if-cell-ne0.false))
    ]

pub returns : goal.returns
returns c =
    let l = length-take-le c.args.end c.args.table.now c.requires in
    let e : c.loop-cell.cell-index ≡ c.args.end = omega (arith, l, c.loop-cell-test.false, c.loop-cell.auto.cell-index-end) in
    c.loop-cell.invariant ∙ ap (count (above c.args.table.now)) e
