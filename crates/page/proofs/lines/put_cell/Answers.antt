-- Nothing for a cell of 0, else its line.
use Rattle.plan.specs.Layout.{plan_of}
use Rattle.page.proofs.PageLaws.{line_asked, line_put, nothing_put}
use Rattle.page.proofs.lines.put_cell.Goals as goal

pub returns-else-table-c-ne0 : goal.returns-else-table-c-ne0
returns-else-table-c-ne0 c = let s = c.args in
    nothing_put s.plan.now s.table.now s.c c.if-table-c-ne0.false

pub put_line-requires : goal.put_line-requires
put_line-requires c = let l = c.line_at in
    let e = l.ensures.is_line (plan_of c.args.plan.now) c.frame_of.ensures in
    line_asked c.args.plan.now c.args.table.now c.args.c l.result e c.if-table-c-ne0.true c.requires.printable.0 c.requires.printable.1 c.requires.text_fits

pub returns-then-table-c-ne0 : goal.returns-then-table-c-ne0
returns-then-table-c-ne0 c = let s = c.args in
    let l = c.line_at in
    let e = l.ensures.is_line (plan_of s.plan.now) c.frame_of.ensures in
    line_put s.plan.now s.table.now s.c l.result e c.if-table-c-ne0.true c.put_line.ensures
