-- The rows of each kind, each lent the part as the call before it left it.
use mathlib.Core.Path.{◌≡◌, sym, ap, ◌∙◌}
use Prim.Native.Nat.{◌*◌}
use native.Mathlib.Omega.{arith}
use lib.ListN.{length, take}
use Rattle.rules_listed.specs.Places.{entries}
use Rattle.rules_listed.proofs.Going.{same_then, still_of}
use Rattle.rules_listed.proofs.Owning.{noted_of}
use Rattle.rules_refill.specs.Refills.{waits}
use Rattle.rules_refill.proofs.Refills.{lent_of, made_in, still_in}
use Rattle.rules_refill.proofs.TableOf as table
use Rattle.rules_refill.proofs.RefillWhole.{refilled_by}
use Rattle.rules_refill.proofs.refill.Refill.refill_point.Goals as goal

pub new-filled-requires : goal.new-filled-requires
new-filled-requires c = let r = c.args.self.now in
    let l = c.requires.part_lent in
    record { row_in = table.cells_row r c.args.x (omega (arith, l.point_in, r.lent.points_are)); narrow = table.narrow r; cells_long = l.cells_long; notes_long = l.notes_long; cells_are = l.cells_are }

pub fill_edges-requires : goal.fill_edges-requires
fill_edges-requires c = record { part_of = made_in c.requires.part_lent c.new-filled.ensures }

pub horizon_at-requires : goal.horizon_at-requires
horizon_at-requires c = record { part_of = still_in (made_in c.requires.part_lent c.new-filled.ensures) c.fill_edges.ensures.same_part; none_over = c.requires.none_over }

pub fill_removals-requires : goal.fill_removals-requires
fill_removals-requires c = record { part_of = still_in (made_in c.requires.part_lent c.new-filled.ensures) (same_then c.fill_edges.ensures.same_part c.horizon_at.ensures.same_part) }

-- the calls keep the references, so the part ends with what its struct ends with
pub returns : goal.returns
returns c = let r = c.args.self.now in
    let new = c.new-filled.ensures in
    let edged = c.fill_edges.ensures.same_part in
    let far = same_then edged c.horizon_at.ensures.same_part in
    let s = same_then far c.fill_removals.ensures.same_part in
    let cells = c.part-1.given.1.1 (sym (s.cells_kept ∙ new.cells_kept)) in
    let notes = c.notes-1.given.1.1 (sym (s.notes_kept ∙ new.notes_kept)) in
    let start : take r.table.width c.new-filled.result.cells.now ≡ entries (waits r) (c.new-filled.result.point * r.table.width) r.table.width = rw (new.cells_same, new.point_is) c.requires.part_lent.cells_are in
    let filled = refilled_by (lent_of r (made_in c.requires.part_lent new)) c.new-filled.result.cells.now start _ _ _ c.fill_edges.ensures.cells_value (rw edged.point at c.horizon_at.ensures.cells_value) (rw far.point at c.fill_removals.ensures.cells_value) in
    record {
      part_value = cells ∙ (rw (new.cells_same, new.point_is) at filled);
      noted = rw (cells, notes) (rw (s.point ∙ new.point_is) at (noted_of (still_of new.part_of s)));
      same_length = (ap length cells ∙ s.cells_as_long ∙ ap length new.cells_same, ap length notes ∙ s.notes_as_long ∙ ap length new.notes_same);
    }
