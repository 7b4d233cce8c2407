-- Each way out by the law of its case: the cell was a line above 0, it is the starting line, or it becomes a line.
use native.Mathlib.Omega.{arith}
use borrow.Author.Rules.{rules}
use Rattle.rounds_tables.proofs.LineLists.{some_line, start_line, no_line, copied_line, copied_new, room}
use Rattle.rounds_tables.proofs.settling.settle_cell.Goals.{then-was-ne0-via-then-was-ne0, then-was-ne0-via-else-was-ne0+then-place-eq0}
use Rattle.rounds_tables.proofs.settling.settle_cell.Goals as goal

pub returns-then-was-ne0 : goal.returns-then-was-ne0
returns-then-was-ne0 c = record {
  after_cell = copied_line _ _ _ _ _ _ _ _ c.requires (elim c.then-was-ne0.branch [
    | then-was-ne0-via-then-was-ne0 w ↦ some_line _ _ w.if-was-ne0.true
    | then-was-ne0-via-else-was-ne0+then-place-eq0 w ↦ start_line _ _ w.if-place-eq0.true
  ]);
  same_length = search rules;
}

pub bounds-lists-at : goal.bounds-lists-at
bounds-lists-at c = omega (arith, room _ _ _ _ _ _ _ _ c.requires (no_line _ _ c.if-was-ne0.false c.if-place-eq0.false))

pub returns : goal.returns
returns c = record { after_cell = copied_new _ _ _ _ _ _ _ _ c.requires (no_line _ _ c.if-was-ne0.false c.if-place-eq0.false); same_length = search rules }
