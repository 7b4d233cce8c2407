-- `rules_apply::sets::insert` meets its contract.
use mathlib.Core.Path.{refl}
use Rattle.plan.specs.LinkSet.{insert}
use Rattle.plan.proofs.Widths.{shift}
use Rattle.rules_apply.proofs.sets.insert.Goals as goal

pub returns : goal.returns
unfolding insert
returns c = rw (c.union.ensures, shift c.args.i c.args.i c.requires refl)
