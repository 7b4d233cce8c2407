-- A set that has a point is at least the point's bit, and is taken from.
use native.Mathlib.Omega.{arith}
use Rattle.rounds_points.proofs.PointSets.{taken, own_le, rest_less, shifted}
use Rattle.rounds_points.proofs.sets.PointSet.without.Goals as goal

pub overflow_sub-result : goal.overflow_sub-result
overflow_sub-result c = let a = c.args in omega (arith, own_le a.self a.x c.requires.0, shifted a.x (omega (arith, c.requires.1)), c.self.view_is)

pub returns : goal.returns
returns c = let a = c.args in
    let bit = shifted a.x (omega (arith, c.requires.1)) in
    (omega (arith, taken a.self a.x c.requires.0, bit, c.self.view_is), omega (arith, rest_less a.self a.x c.requires.0, bit, c.self.view_is))
