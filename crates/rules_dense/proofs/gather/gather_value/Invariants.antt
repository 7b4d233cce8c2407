-- The loop's invariant: the steps of the places passed are made.
use mathlib.Core.Path.{◌≡◌}
use Rattle.rules_fill.specs.Steps.{steps}
use Rattle.rules_dense.specs.Gathered.{own_step}
use Rattle.rules_dense.proofs.gather.gather_value.Given as goal

abbrev pub invariant-loop-z : goal.invariant-loop-z
invariant-loop-z l = l.wait-items ≡ steps (own_step l.first l.base l.free.low l.free.times l.m) l.z l.initial.wait-items
