-- There are at most four links.
use native.Mathlib.Omega.{arith}
use Rattle.plan.proofs.Ranges.{accepted_bounded}
use Rattle.rules_rows.proofs.rows.Rows.most.Goals as goal

pub offset_bounds-self-i : goal.offset_bounds-self-i
offset_bounds-self-i c = omega (arith, (accepted_bounded _ c.args.self.now.accepted).links_in)

pub bounds-self-i : goal.bounds-self-i
bounds-self-i c = omega (arith, (accepted_bounded _ c.args.self.now.accepted).links_in)
