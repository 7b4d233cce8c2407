-- The lesser of the two greatest is no less than what any pair gives.
use borrow.Author.Tests.{leb-true}
use Rattle.rules_halving.proofs.Loops.{nothing_new}
use Rattle.rules_halving.proofs.halves.nothing_new.Goals as goal

pub returns : goal.returns
returns c = record { no_more = λ e. nothing_new c.requires _ (rw (c.greatest.ensures, c.greatest-2.ensures) at c.min.ensures) (rw c.least.ensures at (leb-true _ _ e)) }
