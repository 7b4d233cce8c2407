-- `rules_ground::places::next_within` meets its contract: the least place above t within the mask is found, so where that is none there is none.
use Rattle.rules_ground.proofs.NextLaws.{next_there, next_none}
use Rattle.rules_ground.proofs.places.next_within.Goals as goal

pub returns-then-next-t : goal.returns-then-next-t
returns-then-next-t c = next_none _ _ _ c.requires c.if-next-t.true

pub returns : goal.returns
returns c = next_there _ _ _ c.requires c.if-next-t.false
