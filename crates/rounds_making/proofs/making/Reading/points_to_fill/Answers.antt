-- The first alarm joins the points concerned where it is asked for.
use Rattle.rounds_making.proofs.OneRound.{filled_with_first}
use Rattle.rounds_making.proofs.making.Reading.points_to_fill.Goals as goal

pub returns-then-over : goal.returns-then-over
returns-then-over c = rw c.insert.ensures (filled_with_first _ _ _ _ _ _ c.requires.2 c.concerned-found.ensures _)
