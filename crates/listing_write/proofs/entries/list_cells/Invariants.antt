-- The loop's invariant: the lines of the raised cells passed are written.
use mathlib.Core.Path.{◌≡◌}
use Prim.Native.Nat.{◌+◌, ◌-◌, ◌≤◌}
use lib.ListN.{length}
use Rattle.plan.specs.Layout.{plan_of}
use Rattle.listing_lines.specs.Listed.{raised_lines}
use Rattle.listing_write.specs.Progress.{Appended}
use Rattle.listing_write.proofs.entries.list_cells.Given as goal

abbrev pub invariant-loop-c : goal.invariant-loop-c
invariant-loop-c l = (l.c ≤ l.end) × (l.i ≡ l.at + length (raised_lines (plan_of l.plan) l.first l.second l.c)) × Appended (plan_of l.plan) l.at (raised_lines (plan_of l.plan) l.first l.second l.c) l.initial.out l.out

abbrev pub decreases-loop-c : goal.decreases-loop-c
decreases-loop-c l = l.end - l.c
