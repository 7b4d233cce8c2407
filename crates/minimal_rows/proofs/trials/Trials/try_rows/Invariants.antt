-- The loop's invariant: the marks are those of the rows tried so far.
use Prim.Native.Nat.{◌+◌, ◌*◌, ◌-◌, ◌≤◌}
use Rattle.minimal_rows.specs.Trials.{tried_to}
use Rattle.minimal_rows.specs.Reducing.{plan_in, MarksAre}
use Rattle.minimal_rows.proofs.MarkLaws.{since}
use Rattle.minimal_rows.proofs.trials.Trials.try_rows.Given as goal

abbrev pub invariant-loop-at : goal.invariant-loop-at
invariant-loop-at l = (l.at.next ≤ l.n) × MarksAre (plan_in l.self) (tried_to (plan_in l.self) l.at.next) (since l.initial.first l.first) (since l.initial.second l.second) (since l.initial.marks l.marks)

abbrev pub decreases-loop-at : goal.decreases-loop-at
decreases-loop-at l = (l.n - l.at.next) * 256 + l.at.count
