-- The loop's invariant: the cells passed have their starting numbers.
use mathlib.Core.Path.{◌≡◌}
use Prim.Native.Nat.{◌-◌, ◌≤◌}
use lib.ListN.{length}
use Rattle.plan.specs.Layout.{plan_of}
use Rattle.listing_write.proofs.IndexStores.{Started}
use Rattle.listing_write.proofs.index.start_index.Given as goal

abbrev pub invariant-loop-c : goal.invariant-loop-c
invariant-loop-c l = (l.c ≤ l.end) × (length l.index ≡ length l.initial.index) × Started (plan_of l.plan) l.c l.index

abbrev pub decreases-loop-c : goal.decreases-loop-c
decreases-loop-c l = l.end - l.c
