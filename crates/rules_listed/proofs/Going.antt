-- A loop over listed places under way: the steps of the places passed are made, and the part is the same beside.
use mathlib.Core.Path.{◌≡◌, refl, sym, ap, ap₂, subst, ◌∙◌}
use mathlib.Core.List.{List}
use Prim.Native.Nat.{ℕ, ◌+◌, ◌-◌, ◌*◌, ◌≤◌, ◌<◌}
use native.Mathlib.Nat.{zero-add}
use native.Mathlib.Omega.{arith}
use lib.ListN.{length, get_or, take, drop, length-drop}
use lib.Seq.{get_or-take, get_or-drop, length-take-le}
use Rattle.rules_fill.proofs.StepLaws.{steps_none, steps_alike}
use Rattle.rules_fill.proofs.ShapeLaws.{step_made, done}
use Rattle.rules_listed.specs.declared.part.Part.{Part}
use Rattle.rules_listed.specs.declared.table.Table.{Table}
use Rattle.rules_listed.specs.Places.{Places, entries, listed}
use Rattle.rules_listed.specs.Rows.{CellsRow}
use Rattle.rules_listed.specs.Parts.{cells, SamePart, PartOf}
use Rattle.rules_listed.proofs.Having.{noted_had}

-- ---- the entries of a row
pub entry_at : (L : List ℕ) (a n i : ℕ) → i < n → get_or (entries L a n) i 0 ≡ get_or L (a + i) 0
entry_at L a n i h = get_or-take n (drop a L) i 0 h ∙ get_or-drop a L i 0

pub entries_long : (L : List ℕ) (a n : ℕ) → a + n ≤ length L → length (entries L a n) ≡ n
entries_long L a n h = length-take-le n (drop a L) (omega (arith, length-drop a L))

-- the n raised places of point y, as a slice has them
pub raised_cut : (t : Table) (y n : ℕ) → take (2 * (y * t.width) + n - 2 * (y * t.width)) (drop (2 * (y * t.width)) t.lists.now) ≡ entries t.lists.now (2 * y * t.width) n
raised_cut t y n =
    let a : 2 * (y * t.width) ≡ 2 * y * t.width = omega arith in
    let k : 2 * (y * t.width) + n - 2 * (y * t.width) ≡ n = omega arith in
    ap₂ (λ (m b : ℕ). take m (drop b t.lists.now)) k a

-- the place that entry i holds
pub place_in : {L : List ℕ} {a n w : ℕ} → Places L a n w → {s : List ℕ} → s ≡ entries L a n → (i t : ℕ) → i < length s → t ≡ get_or s i 0 → t < w
place_in {L} {a} {n} {w} p {s} e i t h at =
    let k : i < n = omega (arith, entries_long L a n p.long, ap (λ (q : List ℕ). length q) e) in
    omega (arith, at, ap (λ (q : List ℕ). get_or q i 0) e, entry_at L a n i k, p.within i k)

-- a place has its cell among those of point y
pub cell_in : (t : Table) (y u : ℕ) → CellsRow t y → {s : List ℕ} → s ≡ cells t y → u < t.width → u < length s
cell_in t y u row e h = omega (arith, h, ap (λ (q : List ℕ). length q) e, entries_long t.first.now (y * t.width) t.width row)

-- the wait of a cell of point y
pub cell_of : (t : Table) (y u v : ℕ) {s : List ℕ} → s ≡ cells t y → u < t.width → v ≡ get_or s u 0 → v ≡ get_or t.first.now (y * t.width + u) 0
cell_of t y u v e h at = at ∙ ap (λ (q : List ℕ). get_or q u 0) e ∙ entry_at t.first.now (y * t.width) t.width u h

-- ---- parts
pub same_part : (p : Part) → SamePart p p
same_part p = record { point = refl; own = refl; cells_kept = refl; notes_kept = refl; cells_as_long = refl; notes_as_long = refl }

pub same_then : {p q r : Part} → SamePart p q → SamePart q r → SamePart p r
same_then s t = record { point = t.point ∙ s.point; own = t.own ∙ s.own; cells_kept = t.cells_kept ∙ s.cells_kept; notes_kept = t.notes_kept ∙ s.notes_kept; cells_as_long = t.cells_as_long ∙ s.cells_as_long; notes_as_long = t.notes_as_long ∙ s.notes_as_long }

pub still_of : {t : Table} {p q : Part} → PartOf t p → SamePart p q → PartOf t q
still_of {t} o s = record { row_in = subst (CellsRow t) (sym s.point) o.row_in; own_is = ap (λ b. b.now) s.own ∙ o.own_is ∙ ap (cells t) (sym s.point) }

-- it has a place for each of the table's
pub own_long : {t : Table} {p : Part} → PartOf t p → length p.own.now ≡ t.width
own_long {t} {p} o = ap (λ (q : List ℕ). length q) o.own_is ∙ entries_long t.first.now (p.point * t.width) t.width o.row_in

pub place_fits : {t : Table} {p q : Part} → PartOf t p → SamePart p q → (u : ℕ) → u < t.width → u < length q.own.now
place_fits o s u h = omega (arith, h, own_long (still_of o s))

pub cells_long : {t : Table} {p : Part} → PartOf t p → t.width ≤ length p.cells.now
cells_long {p = p} o = omega (arith, own_long o, (noted_had p.noted).part_long)

-- ---- the loop
pub record Going (f : ℕ → List ℕ → List ℕ) (s : List ℕ) (old : Part) (i : ℕ) (now : Part) : Type 0 where
  pub made : now.cells.now ≡ listed f s 0 i old.cells.now
  pub same : SamePart old now

module _ {f : ℕ → List ℕ → List ℕ} {s : List ℕ} {old : Part} where
  pub going_none : Going f s old 0 old
  unfolding listed
  going_none = record { made = steps_none _ old.cells.now; same = same_part old }

  module _ {i : ℕ} {now : Part} (g : Going f s old i now) where
    -- a step at the entry's place
    pub going_on : (t : ℕ) → t ≡ get_or s i 0 → {next : Part} → next.cells.now ≡ f t now.cells.now → SamePart now next → Going f s old (i + 1) next
    unfolding listed
    going_on t at {next} e same = record { made = step_made (λ v. f (get_or s (0 + v) 0)) i old.cells.now now.cells.now next.cells.now g.made (e ∙ ap (λ (u : ℕ). f u now.cells.now) (at ∙ ap (λ (v : ℕ). get_or s v 0) (sym (zero-add i)))); same = same_then g.same same }

    -- a step that leaves all as it is
    pub going_past : (t : ℕ) → t ≡ get_or s i 0 → now.cells.now ≡ f t now.cells.now → Going f s old (i + 1) now
    going_past t at e = going_on t at e (same_part now)

    -- all of a row's
    pub gone : (L : List ℕ) (a n : ℕ) → s ≡ entries L a n → a + n ≤ length L → i ≡ length s → now.cells.now ≡ listed f L a n old.cells.now
    unfolding listed
    gone L a n e long h =
        done (λ v. f (get_or s (0 + v) 0)) i n old.cells.now now.cells.now g.made (h ∙ ap (λ (q : List ℕ). length q) e ∙ entries_long L a n long)
        ∙ steps_alike (λ v. f (get_or s (0 + v) 0)) (λ v. f (get_or L (a + v) 0)) n (λ v k A. ap (λ (u : ℕ). f u A) (ap (λ (q : List ℕ). get_or q (0 + v) 0) e ∙ ap (λ (u : ℕ). get_or (entries L a n) u 0) (zero-add v) ∙ entry_at L a n v k)) old.cells.now
