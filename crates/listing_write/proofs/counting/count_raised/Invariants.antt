-- The loop's invariant: the count is the lines and the raised cells passed.
use mathlib.Core.Path.{◌≡◌}
use Prim.Native.Nat.{◌+◌, ◌-◌, ◌≤◌, min}
use lib.ListN.{length}
use Rattle.plan.specs.Plan.{Plan}
use Rattle.listing_lines.specs.Listed.{raised_lines}
use Rattle.listing_write.proofs.counting.count_raised.Given as goal

abbrev pub invariant-loop-c : goal.invariant-loop-c
invariant-loop-c l = (l.c ≤ l.end) × (l.count ≤ 4097) × ((P : Plan) → l.count ≡ min 4097 (l.lines + length (raised_lines P l.first l.second l.c)))

abbrev pub decreases-loop-c : goal.decreases-loop-c
decreases-loop-c l = l.end - l.c
