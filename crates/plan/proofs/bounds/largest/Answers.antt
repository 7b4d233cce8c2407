-- `plan::bounds::largest` meets its contract: M is the greater of the two.
use borrow.Author.Rules.{rules}
use Rattle.plan.specs.Layout.{plan_of, largest_of}
use Rattle.plan.proofs.bounds.largest.Goals as goal

pub returns : goal.returns
unfolding plan_of largest_of
returns c = search rules
