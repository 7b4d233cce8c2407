-- The loop's invariant: the raised cells passed have the numbers of their lines.
use mathlib.Core.Path.{◌≡◌}
use Prim.Native.Nat.{◌+◌, ◌-◌, ◌≤◌}
use lib.ListN.{length}
use Rattle.plan.specs.Layout.{plan_of}
use Rattle.listing_lines.specs.Listed.{raised_lines}
use Rattle.listing_write.specs.Progress.{Numbered}
use Rattle.listing_write.proofs.index.number_cells.Given as goal

abbrev pub invariant-loop-c : goal.invariant-loop-c
invariant-loop-c l = (l.c ≤ l.end) × (length l.index ≡ length l.initial.index) × (l.i ≡ (plan_of l.plan).points + l.at + length (raised_lines (plan_of l.plan) l.first l.second l.c)) × Numbered (plan_of l.plan) l.at (raised_lines (plan_of l.plan) l.first l.second l.c) l.initial.index l.index

abbrev pub decreases-loop-c : goal.decreases-loop-c
decreases-loop-c l = l.end - l.c
