-- The notes of a part, by the point's own cells and by the table's.
use mathlib.Core.Path.{◌≡◌, refl, sym, ap, ◌∙◌}
use mathlib.Core.Bool.{Bool, false, not}
use mathlib.Core.List.{List}
use Prim.Native.Nat.{ℕ, zero, suc, ◌+◌, ◌*◌, ◌≤◌, ◌<◌}
use native.Mathlib.Nat.{zero-add}
use native.Mathlib.Omega.{arith}
use lib.ListN.{length, get_or, take}
use lib.Seq.{get_or-take}
use borrow.Author.Tests.{eq-eqb}
use Rattle.rules_listed.specs.Places.{entries, count_below}
use Rattle.rules_listed.specs.Notes.{raised_at, Noted}
use Rattle.rules_listed.proofs.Counting.{count_alike}
use Rattle.rules_listed.specs.declared.part.Part.{Part}
use Rattle.rules_listed.specs.declared.table.Table.{Table}
use Rattle.rules_listed.specs.Parts.{PartOf}
use Rattle.rules_listed.proofs.Having.{noted_had}
use Rattle.rules_listed.proofs.Going.{entry_at, own_long}

-- cells that are the table's have no notes
none_below : (f : ℕ → Bool) (n : ℕ) → ((i : ℕ) → i < n → f i ≡ false) → 0 ≡ count_below f n
unfolding count_below
none_below f zero h = refl
none_below f (suc n) h = rw (h n (omega arith)) (none_below f n (λ i k. h i (omega arith)))

pub noted_none : (A B N : List ℕ) (w : ℕ) → length A ≡ w → w ≤ length B → w ≤ length N → take w B ≡ A → Noted (length A) A 0 B N 0
unfolding raised_at
noted_none A B N w long part_long notes_long e =
    record {
      table_long = omega arith;
      part_long = omega (arith, long);
      notes_long = omega (arith, long);
      no_lower = λ c h. omega (arith, same c (omega (arith, long)));
      count_is = none_below (raised_at A 0 B) (length A) (λ c h. not_raised c (omega (arith, long)));
      within = λ i h. absurd (omega arith);
      all_noted = λ c h r. absurd (rw (not_raised c (omega (arith, long))) at r);
    }
  where
    same : (c : ℕ) → c < w → get_or B c 0 ≡ get_or A (0 + c) 0
    same c h = sym (get_or-take w B c 0 h) ∙ ap (λ (T : List ℕ). get_or T c 0) e ∙ ap (λ (k : ℕ). get_or A k 0) (sym (zero-add c))

    not_raised : (c : ℕ) → c < w → raised_at A 0 B c ≡ false
    not_raised c h = ap not (eq-eqb (get_or B c 0) (get_or A (0 + c) 0) (same c h))

-- the notes by a point's own cells are those by the table's
pub noted_by_table : (F A B N : List ℕ) (a w count : ℕ) → A ≡ entries F a w → length A ≡ w → a + w ≤ length F → Noted (length A) A 0 B N count → Noted w F a B N count
unfolding raised_at
noted_by_table F A B N a w count e long inside n =
    record {
      table_long = inside;
      part_long = omega (arith, n.part_long, long);
      notes_long = omega (arith, n.notes_long, long);
      no_lower = λ c h. omega (arith, own c h, n.no_lower c (omega (arith, long)));
      count_is = n.count_is ∙ ap (count_below (raised_at A 0 B)) long ∙ count_alike _ _ w alike;
      within = λ i h. omega (arith, n.within i h, long);
      all_noted = λ c h r. n.all_noted c (omega (arith, long)) (rw (alike c h) r);
    }
  where
    own : (c : ℕ) → c < w → get_or A (0 + c) 0 ≡ get_or F (a + c) 0
    own c h = ap (λ (k : ℕ). get_or A k 0) (zero-add c) ∙ ap (λ (T : List ℕ). get_or T c 0) e ∙ entry_at F a w c h

    alike : (c : ℕ) → c < w → raised_at A 0 B c ≡ raised_at F a B c
    alike c h = rw (own c h) refl

-- a part's notes, by the table's cells
pub noted_of : {t : Table} {p : Part} → PartOf t p → Noted t.width t.first.now (p.point * t.width) p.cells.now p.notes.now p.count
noted_of {t} {p} o = noted_by_table t.first.now p.own.now p.cells.now p.notes.now (p.point * t.width) t.width p.count o.own_is (own_long o) o.row_in (noted_had p.noted)
