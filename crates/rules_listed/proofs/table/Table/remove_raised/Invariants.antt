-- The loop's invariant: the steps of the raised cells of the part's point passed are made.
use Prim.Native.Nat.{◌+◌, ◌*◌}
use lib.ListN.{get_or}
use Rattle.rules_listed.specs.Listed.{remove_with}
use Rattle.rules_listed.proofs.Going.{Going}
use Rattle.rules_listed.proofs.table.Table.remove_raised.Given as goal

abbrev pub invariant-loop-c : goal.invariant-loop-c
invariant-loop-c l = Going (remove_with l.self.width l.self.first.now l.self.lists.now l.by (get_or l.self.counts.now (2 * l.by.other + 1) 0) l.initial.part.point) l.c-items l.initial.part l.c-index l.part
