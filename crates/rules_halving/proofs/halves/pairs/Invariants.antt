-- The loop's invariant: the steps of the places passed are made.
use mathlib.Core.Path.{◌≡◌}
use lib.ListN.{length}
use Rattle.rules_fill.specs.Steps.{steps}
use Rattle.rules_halving.specs.Products.{pair_steps}
use Rattle.rules_halving.proofs.halves.pairs.Given as goal

abbrev pub invariant-loop-a : goal.invariant-loop-a
invariant-loop-a l = l.h ≡ steps (pair_steps l.f l.g 0 (length l.f)) l.a l.initial.h
