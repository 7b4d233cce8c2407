-- A cell of a part that is raised keeps the notes: its place is noted if the table's wait stood there, and is noted already if not.
use mathlib.Core.Path.{◌≡◌, sym, ap, subst, ◌∙◌}
use mathlib.Core.Bool.{true, not}
use mathlib.Core.List.{List}
use Prim.Native.Nat.{ℕ, ◌+◌, ◌≤◌, ◌<◌}
use native.Mathlib.Nat.{zero-add}
use native.Mathlib.Decide.{ℕ_discrete}
use native.Mathlib.Omega.{arith}
use lib.Dec.{T as Is}
use borrow.Author.Tests.{eq-eqb, ne_eqb}
use lib.ListN.{length, get_or, set, length-set}
use lib.Seq.{get_or-set_same, get_or-set_other}
use Rattle.rules_listed.specs.Places.{Listed, count_below}
use Rattle.rules_listed.specs.Notes.{raised_at, Noted}
use Rattle.rules_listed.proofs.Counting.{count_le, count_alike, count_more}

module _ (w : ℕ) (F : List ℕ) (own : ℕ) (B N : List ℕ) (count c v : ℕ) (noted : Noted w F own B N count) (inside : c < w) (more : get_or B c 0 < v) where
  cell_in : c < length B
  cell_in = omega (arith, noted.part_long)

  higher : get_or (set B c v) c 0 ≡ get_or F (own + c) 0 → ⊥
  higher e = omega (arith, noted.no_lower c inside, get_or-set_same B c v 0 cell_in)

  -- the cell now differs, and no other has changed
  now_raised : raised_at F own (set B c v) c ≡ true
  unfolding raised_at
  now_raised = ap not (ne_eqb _ _ higher)

  others_same : (i : ℕ) → (i ≡ c → ⊥) → raised_at F own B i ≡ raised_at F own (set B c v) i
  unfolding raised_at
  others_same i e = rw (get_or-set_other B c i v 0 e)

  no_lower_now : (i : ℕ) → i < w → get_or F (own + i) 0 ≤ get_or (set B c v) i 0
  no_lower_now i h = go (ℕ_discrete i c)
    where
      go : Dec (i ≡ c) → get_or F (own + i) 0 ≤ get_or (set B c v) i 0
      go (yes e) = rw e (omega (arith, noted.no_lower c inside, get_or-set_same B c v 0 cell_in))
      go (no e) = omega (arith, noted.no_lower i h, get_or-set_other B c i v 0 e)

  part_long_now : w ≤ length (set B c v)
  part_long_now = simp length-set noted.part_long

  module _ (same : get_or B c 0 ≡ get_or F (own + c) 0) where
    count_now : count_below (raised_at F own (set B c v)) w ≡ count + 1
    unfolding raised_at
    count_now = count_more (raised_at F own B) (raised_at F own (set B c v)) c w inside (ap not (eq-eqb _ _ same)) now_raised others_same ∙ ap (λ (k : ℕ). k + 1) (sym noted.count_is)

    -- a part with a cell that is not raised has room for its note
    pub note_fits : count < w
    note_fits = omega (arith, count_now, count_le (raised_at F own (set B c v)) w)

    pub noted_new : Noted w F own (set B c v) (set N count c) (count + 1)
    noted_new = record { table_long = noted.table_long; part_long = part_long_now; notes_long = simp length-set noted.notes_long; no_lower = no_lower_now; count_is = sym count_now; within = λ i h. low i h (ℕ_discrete i count); all_noted = λ i h r. find i h r (ℕ_discrete i c) }
      where
        here : get_or (set N count c) count 0 ≡ c
        here = get_or-set_same N count c 0 (omega (arith, note_fits, noted.notes_long))

        there : (i : ℕ) → (i ≡ count → ⊥) → get_or (set N count c) i 0 ≡ get_or N i 0
        there i e = get_or-set_other N count i c 0 e

        low : (i : ℕ) → i < count + 1 → Dec (i ≡ count) → get_or (set N count c) i 0 < w
        low i h (yes e) = rw e (omega (arith, here))
        low i h (no e) = omega (arith, there i e, noted.within i (omega arith))

        keep : (i : ℕ) → Listed N 0 count i → Listed (set N count c) 0 (count + 1) i
        keep i l = record { at = l.at; below = omega (arith, l.below); is = rw zero-add (there l.at (λ q. omega (arith, l.below)) ∙ rw zero-add at l.is) }

        find : (i : ℕ) → i < w → Is (raised_at F own (set B c v) i) → Dec (i ≡ c) → Listed (set N count c) 0 (count + 1) i
        find i h r (yes e) = record { at = count; below = omega arith; is = rw zero-add (here ∙ sym e) }
        find i h r (no e) = keep i (noted.all_noted i h (subst Is (sym (others_same i e)) r))

  module _ (differs : get_or B c 0 ≡ get_or F (own + c) 0 → ⊥) where
    was_raised : raised_at F own B c ≡ true
    unfolding raised_at
    was_raised = ap not (ne_eqb _ _ differs)

    all_same : (i : ℕ) → raised_at F own B i ≡ raised_at F own (set B c v) i
    all_same i = go (ℕ_discrete i c)
      where
        go : Dec (i ≡ c) → raised_at F own B i ≡ raised_at F own (set B c v) i
        go (yes e) = rw e (was_raised ∙ sym now_raised)
        go (no e) = others_same i e

    pub noted_again : Noted w F own (set B c v) N count
    noted_again = record { table_long = noted.table_long; part_long = part_long_now; notes_long = noted.notes_long; no_lower = no_lower_now; count_is = noted.count_is ∙ count_alike _ _ w (λ i h. all_same i); within = noted.within; all_noted = λ i h r. noted.all_noted i h (subst Is (sym (all_same i)) r) }
