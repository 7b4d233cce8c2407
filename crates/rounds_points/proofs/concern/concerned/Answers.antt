-- A union has the dependents and the points with lines.
use Rattle.rounds_points.proofs.Gathering.{concerned_in}
use Rattle.rounds_points.proofs.concern.concerned.Goals as goal

pub returns : goal.returns
returns c = let d = c.dependents_of in
    let a = c.args in
    rw (c.union.ensures) (concerned_in a.n a.sets.now a.changed a.lined a.givers d.result c.lined_of.result d.ensures.0 d.ensures.1 c.lined_of.ensures)
