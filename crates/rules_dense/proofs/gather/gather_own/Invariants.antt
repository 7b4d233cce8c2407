-- The loop's invariant: the steps of the values passed are made.
use mathlib.Core.Path.{◌≡◌}
use Prim.Native.Nat.{◌-◌, ◌≤◌}
use lib.ListN.{length}
use Rattle.rules_fill.specs.Steps.{steps}
use Rattle.rules_dense.specs.Gathered.{own_value}
use Rattle.rules_dense.proofs.gather.gather_own.Given as goal

abbrev pub invariant-loop-m : goal.invariant-loop-m
invariant-loop-m l = (1 ≤ l.m) × (l.m ≤ l.free.times) × (l.own ≡ steps (own_value l.first l.base l.free.low l.free.times l.free.count) (l.m - 1) l.initial.own) × (length l.own ≡ length l.initial.own)

abbrev pub decreases-loop-m : goal.decreases-loop-m
decreases-loop-m l = l.free.times - l.m
