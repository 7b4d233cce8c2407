-- There are at most 32 points.
use native.Mathlib.Omega.{arith}
use Rattle.plan.proofs.Ranges.{accepted_bounded}
use Rattle.rules_rows.proofs.rows.Rows.first_edge.Goals as goal

pub offset_bounds-self-x : goal.offset_bounds-self-x
offset_bounds-self-x c = omega (arith, (accepted_bounded _ c.args.self.now.accepted).points_in)

pub bounds-self-x : goal.bounds-self-x
bounds-self-x c = omega (arith, (accepted_bounded _ c.args.self.now.accepted).points_in)
