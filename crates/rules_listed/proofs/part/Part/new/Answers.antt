-- Cells that are the table's have no notes.
use Prim.Native.Nat.{◌*◌}
use mathlib.Core.Path.{◌≡◌, sym, ◌∙◌}
use lib.ListN.{length}
use native.Mathlib.Omega.{arith}
use Rattle.rules_listed.proofs.Going.{entries_long}
use Rattle.rules_listed.proofs.Owning.{noted_none}
use Rattle.rules_listed.proofs.part.Part.new.Goals as goal

pub invariant_of-result : goal.invariant_of-result
invariant_of-result c = let t = c.args.table.now in
    let l = entries_long t.first.now (c.args.point * t.width) t.width c.requires.row_in in
    let e : length c.cells.result.now ≡ t.width = rw c.cells.ensures l in
    record { narrow = omega (arith, e, c.requires.narrow); noted = ∣ noted_none _ _ _ _ e c.requires.cells_long c.requires.notes_long (c.requires.cells_are ∙ sym c.cells.ensures) ∣₁ }
