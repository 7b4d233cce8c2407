-- The loop's invariant: the steps of the places passed are made, and the part is the same beside.
use mathlib.Core.Path.{◌≡◌}
use Rattle.rules_fill.specs.Steps.{steps}
use Rattle.rules_listed.specs.Parts.{SamePart}
use Rattle.rules_dense.specs.Gathered.{spread_step}
use Rattle.rules_dense.proofs.gather.spread_part.Given as goal

abbrev pub invariant-loop-z : goal.invariant-loop-z
invariant-loop-z l = (l.part.cells.now ≡ steps (spread_step l.given l.free.low l.free.times) l.z l.initial.part.cells.now) × SamePart l.initial.part l.part
