-- The loop's invariant: a block starts at the cell reached, and the steps of the cells before it are made.
use mathlib.Core.Path.{◌≡◌}
use Prim.Native.Nat.{◌+◌, ◌-◌, ◌%◌, ◌≤◌}
use lib.ListN.{length}
use Rattle.rules_fill.specs.Steps.{steps}
use Rattle.rules_fill.specs.Shapes.{remove_step}
use Rattle.rules_fill.proofs.cells.remove_one.Given as goal

abbrev pub invariant-loop-start : goal.invariant-loop-start
invariant-loop-start l = (l.start ≤ l.width) × (l.start % (l.by.mask + l.by.low) ≡ 0) × (l.part ≡ steps (remove_step l.width l.first l.by.other l.by.mask l.by.add l.place l.wait) l.start l.initial.part) × (length l.part ≡ length l.initial.part)

abbrev pub decreases-loop-start : goal.decreases-loop-start
decreases-loop-start l = l.width - l.start
