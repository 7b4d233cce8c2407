-- There are at most four propositions.
use native.Mathlib.Omega.{arith}
use Rattle.plan.proofs.Ranges.{accepted_bounded}
use Rattle.rules_rows.proofs.rows.Rows.observer.Goals as goal

pub bounds-self-j : goal.bounds-self-j
bounds-self-j c = omega (arith, (accepted_bounded _ c.args.self.now.accepted).propositions_in)
