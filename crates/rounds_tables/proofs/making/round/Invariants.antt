-- The loop's invariant: the cells of the points passed are laid over the second table.
use mathlib.Core.Path.{◌≡◌}
use Prim.Native.Nat.{◌*◌, ◌≤◌}
use lib.ListN.{length}
use Rattle.plan.specs.Horizons.{plan_with}
use Rattle.rules_fill.specs.Parts.{next_cells, laid_over}
use Rattle.rounds_tables.proofs.making.round.Given as goal

abbrev pub invariant-loop-x : goal.invariant-loop-x
invariant-loop-x l = (l.x ≤ l.n) × (l.second ≡ laid_over (l.x * l.width) (next_cells (plan_with l.plan l.horizon) l.first) l.initial.second) × (length l.second ≡ length l.initial.second)
