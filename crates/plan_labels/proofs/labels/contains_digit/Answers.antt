-- `plan_labels::labels::contains_digit` meets its contract: a digit 0 is had by any label, another is compared.
use borrow.Author.Tests.{eq-eqb, ne_eqb}
use Rattle.plan_labels.proofs.labels.contains_digit.Goals as goal

pub returns-then-d-eq0 : goal.returns-then-d-eq0
returns-then-d-eq0 c = simp (← c.digit-d.ensures, eq-eqb _ _ c.if-d-eq0.true)

pub returns-else-d-eq0 : goal.returns-else-d-eq0
returns-else-d-eq0 c = simp (← c.digit-d.ensures, ← c.digit.ensures, ne_eqb _ _ c.if-d-eq0.false)
