-- The loop's invariant: the first table holds the table of the rounds made, and the count is the last line and theirs.
use mathlib.Core.Path.{◌≡◌}
use Prim.Native.Nat.{◌-◌, ◌≤◌}
use lib.ListN.{length}
use Rattle.plan.specs.Layout.{plan_of}
use Rattle.listing_write.proofs.CountLaws.{Reached}
use Rattle.listing_write.proofs.counting.count_rounds.Given as goal

abbrev pub invariant-loop-made : goal.invariant-loop-made
invariant-loop-made l = (l.made ≤ l.rounds) × Reached (plan_of l.plan) l.made l.lines l.first × (length l.first ≡ length l.initial.first) × (length l.second ≡ length l.initial.second)

abbrev pub decreases-loop-made : goal.decreases-loop-made
decreases-loop-made l = l.rounds - l.made
