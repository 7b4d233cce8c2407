-- For inner contracts only: the rows of a table that a function reads. Nothing here is to be believed.
use Rattle.std.specs.Prelude.{ℕ, ◌+◌, ◌*◌, ◌≤◌, ◌<◌, length, get_or}
use Rattle.rules_listed.specs.declared.table.Table.{Table}
use Rattle.rules_listed.specs.Places.{Places}

-- the waits of point y are there
abbrev pub CellsRow : Table → ℕ → Type 0
CellsRow t y = y * t.width + t.width ≤ length t.first.now

-- so are its raised places, with their count
pub record RaisedRow (t : Table) (y : ℕ) : Type 0 where
  pub counted : 2 * y < length t.counts.now
  pub places : Places t.lists.now (2 * y * t.width) (get_or t.counts.now (2 * y) 0) t.width

-- and the places of its lines
pub record LinesRow (t : Table) (y : ℕ) : Type 0 where
  pub counted : 2 * y + 1 < length t.counts.now
  pub places : Places t.lists.now ((2 * y + 1) * t.width) (get_or t.counts.now (2 * y + 1) 0) t.width

-- both lists of point y
pub record PointRows (t : Table) (y : ℕ) : Type 0 where
  pub raised : RaisedRow t y
  pub lines : LinesRow t y
