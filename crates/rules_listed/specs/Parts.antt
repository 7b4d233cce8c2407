-- For inner contracts only: the rows of a table, and a part of the next table. Nothing here is to be believed.
use Rattle.std.specs.Prelude.{◌≡◌, List, ℕ, ◌+◌, ◌*◌, ◌≤◌, length, get_or, take}
use Rattle.std.specs.Borrow.{MutBor}
use Rattle.rules_listed.specs.declared.part.Part.{Part}
use Rattle.rules_listed.specs.declared.table.Table.{Table}
use Rattle.rules_listed.specs.Places.{entries}
use Rattle.rules_listed.specs.Rows.{CellsRow}

-- the waits of point y, by place
abbrev pub cells : Table → ℕ → List ℕ
cells t y = entries t.first.now (y * t.width) t.width

-- its raised places, and the places of its lines
abbrev pub raised : Table → ℕ → List ℕ
raised t y = entries t.lists.now (2 * y * t.width) (get_or t.counts.now (2 * y) 0)

abbrev pub lines : Table → ℕ → List ℕ
lines t y = entries t.lists.now ((2 * y + 1) * t.width) (get_or t.counts.now (2 * y + 1) 0)

-- a part of one of the table's points, whose waits are there
pub record PartOf (t : Table) (p : Part) : Type 0 where
  pub row_in : CellsRow t p.point
  pub own_is : p.own.now ≡ cells t p.point

-- what a part of point x is made of: its waits, as many cells in the next table, which are the same, and room for notes of them, each a place in 16 bits
pub record NewPart (t : Table) (x : ℕ) (cells' notes : List ℕ) : Type 0 where
  pub row_in : CellsRow t x
  pub narrow : t.width ≤ 65536
  pub cells_long : t.width ≤ length cells'
  pub notes_long : t.width ≤ length notes
  pub cells_are : take t.width cells' ≡ cells t x

-- the part made of them
pub record MadePart (t : Table) (x : ℕ) (cells' : MutBor (List ℕ)) (notes : MutBor (List ℕ)) (p : Part) : Type 0 where
  pub point_is : p.point ≡ x
  pub part_of : PartOf t p
  pub cells_kept : p.cells.ghost_name ≡ cells'.ghost_name
  pub cells_same : p.cells.now ≡ cells'.now
  pub notes_kept : p.notes.ghost_name ≡ notes.ghost_name
  pub notes_same : p.notes.now ≡ notes.now

-- the same point and the same references, to as many entries
pub record SamePart (old new : Part) : Type 0 where
  pub point : new.point ≡ old.point
  pub own : new.own ≡ old.own
  pub cells_kept : new.cells.ghost_name ≡ old.cells.ghost_name
  pub notes_kept : new.notes.ghost_name ≡ old.notes.ghost_name
  pub cells_as_long : length new.cells.now ≡ length old.cells.now
  pub notes_as_long : length new.notes.now ≡ length old.notes.now
