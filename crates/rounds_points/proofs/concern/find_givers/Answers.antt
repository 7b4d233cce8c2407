-- A union has the points of both sets.
use Rattle.plan.specs.Layout.{plan_of}
use Rattle.rounds_points.proofs.Gathering.{givers_in}
use Rattle.rounds_points.proofs.concern.find_givers.Goals as goal

pub returns : goal.returns
returns c = let a = c.activations in
    rw c.union.ensures (givers_in (plan_of c.args.plan.now) a.result c.observers.result a.ensures c.observers.ensures)
