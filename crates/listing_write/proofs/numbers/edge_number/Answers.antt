-- Horizon edges come after the plan edges, and the edges of links after them, two and two.
use mathlib.Core.Path.{refl}
use native.Mathlib.Omega.{arith}
use Rattle.rules.specs.declared.Edge.TheVariants.{PlanEdge}
use Rattle.listing_write.proofs.RowNumbers.{edge_numbered, horizon_number, upper_number, lower_number}
use Rattle.listing_write.proofs.numbers.edge_number.Goals as goal

pub overflow_add-result : goal.overflow_add-result
overflow_add-result c = omega (arith, (horizon_number c.args.plan.now c.requires.0 c.args.e c.requires.1 _ _ c.edges.ensures.0 c.in-HorizonEdge.is).1)

-- the numbers of the two edges of a link, and so what adds up to them
pub returns-in-UpperBound : goal.returns-in-UpperBound
returns-in-UpperBound c = upper_number c.args.plan.now c.requires.0 c.args.e c.requires.1 _ _ c.edges-in-UpperBound.ensures.0 _ c.points.ensures.0 c.in-UpperBound.is

pub returns-in-LowerBound : goal.returns-in-LowerBound
returns-in-LowerBound c = lower_number c.args.plan.now c.requires.0 c.args.e c.requires.1 _ _ c.edges-in-LowerBound.ensures.0 _ c.points-in-LowerBound.ensures.0 c.in-LowerBound.is

pub overflow_mul-result : goal.overflow_mul-result
overflow_mul-result c = omega (arith, (returns-in-UpperBound c).1)

pub overflow_add-result-in-UpperBound-2 : goal.overflow_add-result-in-UpperBound-2
overflow_add-result-in-UpperBound-2 c = omega (arith, (returns-in-UpperBound c).1)

pub overflow_mul-result-in-LowerBound : goal.overflow_mul-result-in-LowerBound
overflow_mul-result-in-LowerBound c = omega (arith, (returns-in-LowerBound c).1)

pub overflow_add-result-in-LowerBound-2 : goal.overflow_add-result-in-LowerBound-2
overflow_add-result-in-LowerBound-2 c = omega (arith, (returns-in-LowerBound c).1)

pub overflow_add-result-in-LowerBound-3 : goal.overflow_add-result-in-LowerBound-3
overflow_add-result-in-LowerBound-3 c = omega (arith, (returns-in-LowerBound c).1)

pub returns-in-PlanEdge : goal.returns-in-PlanEdge
returns-in-PlanEdge c = edge_numbered c.args.plan.now c.requires.0 c.args.e (PlanEdge c.in-PlanEdge.i) c.in-PlanEdge.i c.in-PlanEdge.is c.requires.1 refl

pub returns-in-HorizonEdge : goal.returns-in-HorizonEdge
returns-in-HorizonEdge c = horizon_number c.args.plan.now c.requires.0 c.args.e c.requires.1 _ _ c.edges.ensures.0 c.in-HorizonEdge.is
