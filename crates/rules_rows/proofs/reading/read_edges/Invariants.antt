-- The loop's invariant: the edges from i on are read.
use Rattle.std.proofs.Common.{◌≡◌}
use lib.ListN.{length}
use Rattle.plan.specs.Layout.{plan_of}
use Rattle.rules_rows.specs.RowsRead.{EdgesFrom}
use Rattle.rules_rows.proofs.reading.read_edges.Given as goal

abbrev pub invariant-loop-i : goal.invariant-loop-i
invariant-loop-i l = (length l.first ≡ 32) × (length l.read ≡ 128) × EdgesFrom (plan_of l.plan) l.i l.first l.read
