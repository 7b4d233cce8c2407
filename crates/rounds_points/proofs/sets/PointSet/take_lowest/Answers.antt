-- The zeros below the lowest set bit of a number that is not 0 count up to that bit, which is taken from the number.
use native.Mathlib.Omega.{arith}
use Rattle.rounds_points.proofs.PointSets.{lowest_taken}
use Rattle.rounds_points.proofs.sets.PointSet.take_lowest.Goals as goal

pub overflow_sub-self : goal.overflow_sub-self
overflow_sub-self c = omega (arith, (lowest_taken c.self.inside.bits c.if-self-eq0.false (omega arith)).0)

pub returns : goal.returns
returns c = let r = lowest_taken c.self.inside.bits c.if-self-eq0.false (omega arith) in rw (← c.self.view_is) (r.1, r.2, r.3, r.4, r.5)
