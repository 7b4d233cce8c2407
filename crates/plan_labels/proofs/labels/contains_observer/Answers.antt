-- `plan_labels::labels::contains_observer` meets its contract: a proposition that the label does not name asks nothing, of another the label is looked into.
use borrow.Author.Tests.{eq-eqb, ne_eqb}
use Rattle.plan_labels.proofs.labels.contains_observer.Goals as goal

pub returns-then-digit-eq0 : goal.returns-then-digit-eq0
returns-then-digit-eq0 c = simp (← c.digit.ensures, eq-eqb _ _ c.if-digit-eq0.true)

pub returns-else-digit-eq0 : goal.returns-else-digit-eq0
returns-else-digit-eq0 c = simp (← c.digit.ensures, ne_eqb _ _ c.if-digit-eq0.false, ← c.observer.ensures.0, ← c.point_label.ensures.0) c.contains_label.ensures
