-- The loop's invariant: the steps from lo to the cell reached are made.
use mathlib.Core.Path.{◌≡◌}
use Prim.Native.Nat.{ℕ, ◌+◌, ◌-◌, ◌*◌, ◌≤◌}
use lib.ListN.{length}
use Rattle.rules_fill.specs.Steps.{steps}
use Rattle.rules_fill.specs.Shapes.{remove_step}
use Rattle.rules_fill.proofs.cells.remove_run.Given as goal

abbrev pub invariant-loop-c : goal.invariant-loop-c
invariant-loop-c l = (l.lo ≤ l.c) × (l.c ≤ l.hi) × ((m : ℕ) → l.base ≡ l.by.other * m → l.part ≡ steps (λ i. remove_step m l.first l.by.other l.by.mask l.by.add l.place l.wait (l.lo + i)) (l.c - l.lo) l.initial.part) × (length l.part ≡ length l.initial.part)

abbrev pub decreases-loop-c : goal.decreases-loop-c
decreases-loop-c l = l.hi - l.c
