-- The rows passed have their ends, and then their data, written.
use Prim.Native.Nat.{◌+◌, ◌*◌}
use Rattle.plan_rows.specs.RowBytes.{row_bytes_to}
use Rattle.plan_rows.proofs.Begun.{Begun}
use Rattle.plan_rows.proofs.RowPlaces.{ends, edge_data}
use Rattle.plan_rows.proofs.writing.write_rows.Given as goal

abbrev pub invariant-loop-i : goal.invariant-loop-i
invariant-loop-i l = Begun (row_bytes_to l.plan l.rows (ends l.plan l.rows + 2 * l.i)) (ends l.plan l.rows + 2 * l.i) l.fn.out l.out

abbrev pub invariant-loop-i-2 : goal.invariant-loop-i-2
invariant-loop-i-2 l = Begun (row_bytes_to l.plan l.rows (edge_data l.plan l.rows + 4 * l.i)) (edge_data l.plan l.rows + 4 * l.i) l.fn.out l.out
