-- `plan_labels::labels::comes_after_answer` meets its contract: a proposition that the label does not name asks nothing, of another an edge is looked for.
use borrow.Author.Tests.{eq-eqb, ne_eqb}
use Rattle.plan_labels.proofs.labels.comes_after_answer.Goals as goal

pub returns-then-digit-eq0 : goal.returns-then-digit-eq0
returns-then-digit-eq0 c = simp (← c.point_label.ensures.0, ← c.digit.ensures, eq-eqb _ _ c.if-digit-eq0.true)

pub returns-else-digit-eq0 : goal.returns-else-digit-eq0
returns-else-digit-eq0 c = simp (← c.point_label.ensures.0, ← c.digit.ensures, ne_eqb _ _ c.if-digit-eq0.false) c.some_puts_after.ensures
