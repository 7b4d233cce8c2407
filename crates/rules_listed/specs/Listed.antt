-- For inner contracts only: the rules as loops over listed places of a table. Nothing here is to be believed: the whole makes `propagate_in`, `remove_in` and `clear_in`.
use Rattle.std.specs.Prelude.{not, List, ℕ, ◌+◌, ◌*◌, ◌<◌, get_or}
use Rattle.std.specs.Int.Bits.{bit_or}
use Rattle.plan.specs.Label.{Marks}
use Rattle.rules.specs.Tables.{raise_cell}
use Rattle.rules_fill.specs.declared.shapes.Propagator.{Propagator}
use Rattle.rules_fill.specs.declared.shapes.Remover.{Remover}
use Rattle.rules_fill.specs.Parts.{AtMost}
use Rattle.rules_fill.specs.Cells.{AllJoin}
use Rattle.rules_fill.specs.Steps.{when}
use Rattle.rules_fill.specs.Shapes.{touches, cleared, removed, remove_step, propagate_in, remove_in, clear_in}
use Rattle.rules_listed.specs.declared.part.Part.{Part}
use Rattle.rules_listed.specs.declared.table.Table.{Table}
use Rattle.rules_listed.specs.Places.{Places, listed}
use Rattle.rules_listed.specs.Rows.{CellsRow, RaisedRow, PointRows}
use Rattle.rules_listed.specs.Parts.{PartOf}
use Rattle.rules_listed.specs.Rests.{PropagateRest, RemoveRest, ClearRest}

-- ---- rules 1 to 3
-- the marks, the bits of a label, waits to which a duration can be added in 32 bits, those of the row's point and its n raised places, and a part of one of the
-- table's points: the bits that the row adds make a place with any, and lines of the row's point that are not raised give no more than the part holds
pub record PropagateRaisedLent (t : Table) (n : ℕ) (marks : List ℕ) (mask : ℕ) (by : Propagator) (p : Part) : Type 0 where
  pub marked : Marks marks
  pub mask_small : mask < 256
  pub bound : AtMost 4000000000 t.first.now
  pub down_small : by.down < 65536
  pub from_in : CellsRow t by.from
  pub raised : Places t.lists.now (2 * by.from * t.width) n t.width
  pub joins : (u : ℕ) → u < t.width → bit_or u by.add < t.width
  pub part_of : PartOf t p
  pub rest : PropagateRest t.width t.first.now t.lists.now n mask by p.cells.now

-- the same, where the table counts these places
pub record PropagateLent (t : Table) (marks : List ℕ) (mask : ℕ) (by : Propagator) (p : Part) : Type 0 where
  pub marked : Marks marks
  pub mask_small : mask < 256
  pub bound : AtMost 4000000000 t.first.now
  pub down_small : by.down < 65536
  pub from_in : CellsRow t by.from
  pub raised : RaisedRow t by.from
  pub joins : (u : ℕ) → u < t.width → bit_or u by.add < t.width
  pub part_of : PartOf t p
  pub rest : PropagateRest t.width t.first.now t.lists.now (get_or t.counts.now (2 * by.from) 0) mask by p.cells.now

abbrev pub propagate_by : Table → ℕ → Propagator → List ℕ → List ℕ
propagate_by t mask by = propagate_in t.width t.first.now mask by.from by.avoid by.add by.up by.down

-- ---- rule 5
-- a part of one of the table's points, its n raised places, and what its other lines give is no more than the part holds
pub record ClearRaisedLent (t : Table) (n mask : ℕ) (p : Part) : Type 0 where
  pub part_of : PartOf t p
  pub raised : Places t.lists.now (2 * p.point * t.width) n t.width
  pub rest : ClearRest t.width t.first.now t.lists.now n mask p.point p.cells.now

-- the same, where the table counts these places
pub record ClearLent (t : Table) (mask : ℕ) (p : Part) : Type 0 where
  pub part_of : PartOf t p
  pub raised : RaisedRow t p.point
  pub rest : ClearRest t.width t.first.now t.lists.now (get_or t.counts.now (2 * p.point) 0) mask p.point p.cells.now

abbrev pub clear_by : Table → ℕ → ℕ → List ℕ → List ℕ
clear_by t mask x = clear_in t.width t.first.now mask x

-- ---- rules 4 and 6
-- a part of one of the table's points, the waits of the row's other point, and places that are joined among themselves
pub record RemoveLent (t : Table) (by : Remover) (p : Part) : Type 0 where
  pub other_in : CellsRow t by.other
  pub joins : AllJoin t.width
  pub add_small : by.add < 65536
  pub part_of : PartOf t p

-- the lists of both points, and pairs of which none is raised give no more than the part holds
pub record PairsRest (t : Table) (by : Remover) (p : Part) : Type 0 where
  pub own : PointRows t p.point
  pub other : PointRows t by.other
  pub rest : RemoveRest t.width t.first.now t.lists.now t.counts.now p.point by p.cells.now

-- from the line of point x at place t, and the n lines of the other point
unfoldable pub remove_with : ℕ → List ℕ → List ℕ → Remover → ℕ → ℕ → ℕ → List ℕ → List ℕ
remove_with w F L by n x t = when (touches by.mask t) (listed (remove_step w F by.other by.mask by.add (cleared t by.mask) (get_or F (x * w + t) 0)) L ((2 * by.other + 1) * w) n)

-- from the line of point x at place t, and the other point's line at place u, which waits v
unfoldable pub remove_own_step : ℕ → List ℕ → Remover → ℕ → ℕ → ℕ → ℕ → List ℕ → List ℕ
remove_own_step w F by x u v t = when (touches by.mask t) (raise_cell (bit_or (cleared t by.mask) u) (removed by.mask by.add (get_or F (x * w + t) 0) u v))

-- from the other point's line at place u, and the n lines of point x
unfoldable pub remove_other_with : ℕ → List ℕ → List ℕ → Remover → ℕ → ℕ → ℕ → List ℕ → List ℕ
remove_other_with w F L by n x u = when (not (touches by.mask u)) (listed (remove_own_step w F by x u (get_or F (by.other * w + u) 0)) L ((2 * x + 1) * w) n)

-- the same over a table's rows: one place with the other point's lines, the raised places of point x with them, the lines of point x with one place, and
-- these with the other point's raised places
abbrev pub remove_line_by : Table → Remover → ℕ → ℕ → List ℕ → List ℕ
remove_line_by t by place wait = listed (remove_step t.width t.first.now by.other by.mask by.add place wait) t.lists.now ((2 * by.other + 1) * t.width) (get_or t.counts.now (2 * by.other + 1) 0)

abbrev pub remove_raised_by : Table → Remover → ℕ → List ℕ → List ℕ
remove_raised_by t by x = listed (remove_with t.width t.first.now t.lists.now by (get_or t.counts.now (2 * by.other + 1) 0) x) t.lists.now (2 * x * t.width) (get_or t.counts.now (2 * x) 0)

abbrev pub remove_own_by : Table → Remover → ℕ → ℕ → ℕ → List ℕ → List ℕ
remove_own_by t by x place other = listed (remove_own_step t.width t.first.now by x place other) t.lists.now ((2 * x + 1) * t.width) (get_or t.counts.now (2 * x + 1) 0)

abbrev pub remove_other_by : Table → Remover → ℕ → List ℕ → List ℕ
remove_other_by t by x = listed (remove_other_with t.width t.first.now t.lists.now by (get_or t.counts.now (2 * x + 1) 0) x) t.lists.now (2 * by.other * t.width) (get_or t.counts.now (2 * by.other) 0)

abbrev pub remove_by : Table → Remover → ℕ → List ℕ → List ℕ
remove_by t by x = remove_in t.width t.first.now by.other by.mask by.add x
