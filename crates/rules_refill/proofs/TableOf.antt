-- The rows of the table that a round is made from.
use mathlib.Core.Path.{refl}
use Prim.Native.Nat.{ℕ, ◌≤◌, ◌<◌}
use native.Mathlib.Omega.{arith}
use lib.ListN.{length}
use Rattle.plan.specs.Layout.{plan_of}
use Rattle.plan.proofs.Ranges.{accepted_bounded}
use Rattle.plan.proofs.Widths.{width_small}
use Rattle.rules_fill.specs.Cells.{AllJoin}
use Rattle.rules_fill.proofs.ShapeLaws.{row_in, all_in_by}
use Rattle.rules_listed.specs.Rows.{CellsRow, PointRows}
use Rattle.rules_refill.specs.declared.refill.Refill.{Refill}
use Rattle.rules_refill.specs.Refills.{whole}
use Rattle.rules_refill.proofs.Refills.{lists_had}

module _ (r : Refill) where
  pub narrow : r.table.width ≤ 65536
  narrow = let b = accepted_bounded r.plan.now r.lent.accepted in
      rw r.lent.numbers.width_is (omega (arith, width_small (plan_of r.plan.now).links (plan_of r.plan.now).propositions b.links_in b.propositions_in))

  pub joins : AllJoin r.table.width
  joins = all_in_by (whole r) r.table.width r.lent.numbers.width_is

  module _ (y : ℕ) (h : y < (plan_of r.plan.now).points) where
    pub cells_row : CellsRow r.table y
    cells_row = row_in (whole r) y (length r.table.first.now) r.table.width y h r.lent.long_first r.lent.numbers.width_is refl

    pub point_rows : PointRows r.table y
    point_rows = let l = lists_had r.lent.lists_are in
        record {
          raised = record { counted = omega (arith, h, l.counts_long); places = rw r.lent.numbers.width_is (l.of_point y h).raised_places };
          lines = record { counted = omega (arith, h, l.counts_long); places = rw r.lent.numbers.width_is (l.of_point y h).line_places };
        }
