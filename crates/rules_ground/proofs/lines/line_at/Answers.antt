-- `rules_ground::lines::line_at` meets its contract: the line with the wait that the table holds.
use Rattle.rules_ground.proofs.LineLaws.{line_read}
use Rattle.rules_ground.proofs.lines.line_at.Goals as goal

pub returns : goal.returns
returns c = let a = c.args in
    let w = c.cell_at in
    line_read a.frame a.c w.result a.table.now _ w.ensures.0 w.ensures.1 c.line_with.ensures
