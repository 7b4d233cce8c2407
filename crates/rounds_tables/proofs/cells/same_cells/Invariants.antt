-- The loops' invariants: the cells passed agree, and a point's row lies within the tables.
use mathlib.Core.Path.{◌≡◌}
use mathlib.Core.Bool.{true}
use Prim.Native.Nat.{◌+◌, ◌*◌, ◌≤◌}
use lib.ListN.{take}
use Rattle.rounds_tables.proofs.cells.same_cells.Given as goal

abbrev pub invariant-loop-t : goal.invariant-loop-t
invariant-loop-t l = (l.t ≤ l.end) × (l.end ≤ l.width) × (l.start + l.width ≤ l.points * l.width) × (l.agree ≡ true) × (take (l.start + l.t) l.first ≡ take (l.start + l.t) l.second)

abbrev pub invariant-walk : goal.invariant-walk
invariant-walk l = (l.x ≤ l.points) × (l.agree ≡ true) × (take (l.x * l.width) l.first ≡ take (l.x * l.width) l.second)
