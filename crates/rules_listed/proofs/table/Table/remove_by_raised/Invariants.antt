-- The loop's invariant: the steps of the other point's raised cells passed are made.
use Prim.Native.Nat.{◌+◌, ◌*◌}
use lib.ListN.{get_or}
use Rattle.rules_listed.specs.Listed.{remove_other_with}
use Rattle.rules_listed.proofs.Going.{Going}
use Rattle.rules_listed.proofs.table.Table.remove_by_raised.Given as goal

abbrev pub invariant-loop-u : goal.invariant-loop-u
invariant-loop-u l = Going (remove_other_with l.self.width l.self.first.now l.self.lists.now l.by (get_or l.self.counts.now (2 * l.initial.part.point + 1) 0) l.initial.part.point) l.u-items l.initial.part l.u-index l.part
