-- The loop's invariant: the rounds made are listed.
use mathlib.Core.Path.{◌≡◌}
use Prim.Native.Nat.{◌-◌, ◌≤◌}
use lib.ListN.{length}
use Rattle.plan.specs.Layout.{plan_of}
use Rattle.listing_lines.specs.Listed.{lines_to}
use Rattle.listing_write.specs.RoundLines.{RoundsListed}
use Rattle.listing_write.proofs.round_lines.list_rounds.Given as goal

abbrev pub invariant-loop-made : goal.invariant-loop-made
invariant-loop-made l = (l.made ≤ l.rounds) × (l.at ≡ length (lines_to (plan_of l.plan) l.made)) × RoundsListed (plan_of l.plan) l.made l.initial.first l.initial.second l.initial.index l.initial.out l.first l.second l.index l.out

abbrev pub decreases-loop-made : goal.decreases-loop-made
decreases-loop-made l = l.rounds - l.made
