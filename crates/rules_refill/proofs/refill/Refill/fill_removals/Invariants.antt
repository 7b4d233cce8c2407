-- The loop's invariant: the steps of the links and propositions passed are made, and the part is the same beside.
use mathlib.Core.Path.{◌≡◌}
use Rattle.rules_fill.specs.Steps.{steps}
use Rattle.rules_listed.specs.Parts.{SamePart}
use Rattle.rules_refill.specs.Refills.{whole, waits}
use Rattle.rules_refill.proofs.Removals.{fill_removal}
use Rattle.rules_refill.proofs.refill.Refill.fill_removals.Given as goal

abbrev pub invariant-loop-r : goal.invariant-loop-r
invariant-loop-r l = (l.part.cells.now ≡ steps (fill_removal (whole l.self) (waits l.self) l.initial.part.point) l.r l.initial.part.cells.now) × SamePart l.initial.part l.part
