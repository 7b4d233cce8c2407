-- The loop's invariant: the entries of the points passed are in the log, as far as it is long.
use mathlib.Core.Path.{◌≡◌}
use Prim.Native.Nat.{◌*◌, ◌≤◌}
use lib.ListN.{length}
use Rattle.rounds_tables.specs.Log.{raised_entries, LogGrew}
use Rattle.rounds_tables.proofs.logging.log_round.Given as goal

abbrev pub invariant-loop-x : goal.invariant-loop-x
invariant-loop-x l = (l.x ≤ l.points) × (length l.log ≡ length l.initial.log) × LogGrew (raised_entries l.first l.second 0) (raised_entries l.first l.second (l.x * l.width)) l.initial.log l.at l.log l.end
