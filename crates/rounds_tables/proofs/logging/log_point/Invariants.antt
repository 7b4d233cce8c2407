-- The loop's invariant: the entries of the cells passed are in the log, as far as it is long.
use mathlib.Core.Path.{◌≡◌}
use Prim.Native.Nat.{◌+◌, ◌≤◌}
use lib.ListN.{length}
use Rattle.rounds_tables.specs.Log.{raised_entries, LogGrew}
use Rattle.rounds_tables.proofs.logging.log_point.Given as goal

abbrev pub invariant-loop-t : goal.invariant-loop-t
invariant-loop-t l = (l.t ≤ l.width) × (length l.log ≡ length l.initial.log) × LogGrew (raised_entries l.first l.second l.start) (raised_entries l.first l.second (l.start + l.t)) l.initial.log l.at l.log l.end
