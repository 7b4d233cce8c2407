-- The loop's invariant: the steps of the propositions passed are made.
use mathlib.Core.Path.{◌≡◌}
use Prim.Native.Nat.{◌-◌, ◌≤◌}
use lib.ListN.{length}
use Rattle.plan.specs.Layout.{plan_of}
use Rattle.rules_fill.specs.Steps.{steps}
use Rattle.rules_fill.specs.Shapes.{fill_proposition}
use Rattle.rules_fill.proofs.fill.fill_propositions.Given as goal

abbrev pub invariant-loop-j : goal.invariant-loop-j
invariant-loop-j l = (l.j ≤ l.n) × (l.part ≡ steps (fill_proposition (plan_of l.plan) l.first l.x) l.j l.initial.part) × (length l.part ≡ length l.initial.part)

abbrev pub decreases-loop-j : goal.decreases-loop-j
decreases-loop-j l = l.n - l.j
