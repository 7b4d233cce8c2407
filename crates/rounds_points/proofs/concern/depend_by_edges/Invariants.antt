-- The loop's invariant: the edges passed are in the sets, which have lost no point.
use mathlib.Core.Path.{◌≡◌}
use Prim.Native.Nat.{◌≤◌}
use lib.ListN.{length}
use Rattle.plan.specs.Layout.{plan_of}
use Rattle.rounds_points.proofs.Growing.{EdgesPassed}
use Rattle.rounds_points.proofs.concern.depend_by_edges.Given as goal

abbrev pub invariant-loop-i : goal.invariant-loop-i
invariant-loop-i l = (l.i ≤ l.n) × EdgesPassed (plan_of l.plan) l.i l.initial.sets l.sets × (length l.sets ≡ length l.initial.sets)
