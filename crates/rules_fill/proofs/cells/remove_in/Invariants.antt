-- The loop's invariant: the steps of the cells passed are made.
use mathlib.Core.Path.{◌≡◌}
use Rattle.rules_fill.specs.Steps.{steps}
use Rattle.rules_fill.specs.Shapes.{remove_from}
use Rattle.rules_fill.proofs.cells.remove_in.Given as goal

abbrev pub invariant-loop-c : goal.invariant-loop-c
invariant-loop-c l = l.part ≡ steps (remove_from l.width l.first l.by.other l.by.mask l.by.add l.x) l.c l.initial.part
