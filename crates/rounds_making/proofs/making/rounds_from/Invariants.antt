-- The loop's invariant: both tables hold the table of the rounds made, none of them stopped, and what is known of it is in the lists.
use mathlib.Core.Path.{◌≡◌}
use Prim.Native.Nat.{◌≤◌}
use lib.ListN.{length}
use Rattle.plan.specs.Horizons.{plan_with}
use Rattle.rounds_making.proofs.RoundByRound.{Rounding}
use Rattle.rounds_making.proofs.making.rounds_from.Given as goal

abbrev pub invariant-loop-made : goal.invariant-loop-made
invariant-loop-made l = (l.made ≤ l.limit) × Rounding (plan_with l.plan l.horizon) l.initial.first l.initial.second l.initial.lists l.initial.counts l.initial.notes l.made l.first l.second l.lists l.counts l.notes l.noted l.last × (length l.noted ≡ 32)
