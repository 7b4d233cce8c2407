-- The loop's invariant: the cells passed were not raised.
use mathlib.Core.Path.{◌≡◌}
use Prim.Native.Nat.{◌-◌, ◌≤◌}
use Rattle.listing_lines.specs.Listed.{lowest_raised}
use Rattle.listing_write.proofs.round_lines.lowest.Given as goal

abbrev pub invariant-loop-c : goal.invariant-loop-c
invariant-loop-c l = (l.c ≤ l.width) × (lowest_raised l.first l.second 0 l.width ≡ lowest_raised l.first l.second l.c (l.width - l.c))

abbrev pub decreases-loop-c : goal.decreases-loop-c
decreases-loop-c l = l.width - l.c
