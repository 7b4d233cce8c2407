-- The loop's invariant: the steps of the edges passed are made.
use mathlib.Core.Path.{◌≡◌}
use Prim.Native.Nat.{◌-◌, ◌≤◌}
use lib.ListN.{length}
use Rattle.plan.specs.Horizons.{plan_with}
use Rattle.rules_fill.specs.Steps.{steps}
use Rattle.rules_fill.specs.Shapes.{fill_edge}
use Rattle.rules_fill.proofs.fill.fill_edges.Given as goal

abbrev pub invariant-loop-i : goal.invariant-loop-i
invariant-loop-i l = (l.i ≤ l.n) × (l.part ≡ steps (fill_edge (plan_with l.plan l.horizon) l.first l.x) l.i l.initial.part) × (length l.part ≡ length l.initial.part)

abbrev pub decreases-loop-i : goal.decreases-loop-i
decreases-loop-i l = l.n - l.i
