-- The loop's invariant: the steps of the points passed are made, and those begin at 1; the part is the same beside.
use mathlib.Core.Path.{◌≡◌}
use Prim.Native.Nat.{suc, ◌-◌, ◌≤◌, ◌<◌}
use Rattle.rules.specs.declared.Edge.TheVariants.{HorizonEdge}
use Rattle.rules_fill.specs.Steps.{steps}
use Rattle.rules_fill.specs.Shapes.{edge_in_step}
use Rattle.rules_listed.specs.Parts.{SamePart}
use Rattle.rules_refill.specs.Refills.{whole, waits}
use Rattle.rules_refill.proofs.refill.Refill.fill_horizon.Given as goal

abbrev pub invariant-loop-y : goal.invariant-loop-y
invariant-loop-y l = (0 < l.y) × (l.y ≤ l.self.points) × (l.part.cells.now ≡ steps (λ z. edge_in_step (whole l.self) (waits l.self) (HorizonEdge (suc z))) (l.y - 1) l.initial.part.cells.now) × SamePart l.initial.part l.part
