-- The loop's invariant: the links passed are in the sets, both ways, and the sets have lost no point.
use mathlib.Core.Path.{◌≡◌}
use Prim.Native.Nat.{◌≤◌}
use lib.ListN.{length}
use Rattle.plan.specs.Layout.{plan_of}
use Rattle.rounds_points.proofs.Growing.{LinksPassed}
use Rattle.rounds_points.proofs.concern.depend_by_links.Given as goal

abbrev pub invariant-loop-i : goal.invariant-loop-i
invariant-loop-i l = (l.i ≤ l.n) × LinksPassed (plan_of l.plan) l.i l.initial.sets l.sets × (length l.sets ≡ length l.initial.sets)
