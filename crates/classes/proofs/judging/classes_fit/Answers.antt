-- The length, and then every class.
use borrow.Author.Tests.{eq-eqb, ne_eqb}
use Rattle.classes.specs.Classes.{classes_fit}
use Rattle.classes.proofs.judging.classes_fit.Goals as goal

pub returns-then-classes-links : goal.returns-then-classes-links
unfolding classes_fit
returns-then-classes-links c = rw (← c.links.ensures.0, eq-eqb _ _ c.if-classes-links.true) c.classes_known.ensures

pub returns-else-classes-links : goal.returns-else-classes-links
unfolding classes_fit
returns-else-classes-links c = rw (← c.links.ensures.0, ne_eqb _ _ c.if-classes-links.false)
