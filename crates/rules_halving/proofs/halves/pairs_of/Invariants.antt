-- The loop's invariant: the steps of the places passed are made.
use mathlib.Core.Path.{◌≡◌}
use Rattle.rules_fill.specs.Steps.{steps}
use Rattle.rules_halving.specs.Products.{step_of_pair}
use Rattle.rules_halving.proofs.halves.pairs_of.Given as goal

abbrev pub invariant-loop-b : goal.invariant-loop-b
invariant-loop-b l = l.h ≡ steps (step_of_pair l.f l.g 0 l.a) l.b l.initial.h
