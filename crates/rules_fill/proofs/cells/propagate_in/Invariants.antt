-- The loop's invariant: the steps of the cells passed are made.
use mathlib.Core.Path.{◌≡◌}
use Rattle.rules_fill.specs.Steps.{steps}
use Rattle.rules_fill.specs.Shapes.{propagate_step}
use Rattle.rules_fill.proofs.cells.propagate_in.Given as goal

abbrev pub invariant-loop-c : goal.invariant-loop-c
invariant-loop-c l = l.part ≡ steps (propagate_step l.width l.first l.mask l.by.from l.by.avoid l.by.add l.by.up l.by.down) l.c l.initial.part
