-- Laws of the rounds with their lines: what a round needs and leaves, what is written after each, and that the whole is the listing.
use mathlib.Core.Path.{◌≡◌, refl, sym, ap, ap₂, subst, ◌∙◌}
use mathlib.Core.List.{List, [], ◌∷◌, ◌++◌}
use Prim.Native.Nat.{ℕ, suc, ◌+◌, ◌-◌, ◌*◌, ◌≤◌, ◌<◌}
use native.Mathlib.Numerals.{add-one}
use native.Mathlib.Omega.{arith}
use borrow.Author.Tests.{lt-ltb, le-ltb}
use lib.ListN.{length, get_or, set, take}
use Rattle.plan.specs.Label.{Marks}
use Rattle.plan.specs.Plan.{Plan, width, cells}
use Rattle.plan.specs.Layout.{plan_of}
use Rattle.plan.specs.Horizons.{plan_with}
use Rattle.plan.specs.Refusal.{Accepted}
use Rattle.plan.proofs.Ranges.{accepted_well_formed}
use Rattle.rules.specs.declared.Line.{Line}
use Rattle.rules.specs.Lines.{line_at}
use Rattle.rules.specs.Tables.{next}
use Rattle.rules.proofs.Cells.{cell_at}
use Rattle.rules.proofs.FirstAlarm.{width_le}
use Rattle.rules_fill.specs.Parts.{laid_over}
use Rattle.replay.specs.Listings.{line_count}
use Rattle.listing_lines.specs.Listed.{table, raised_lines, lines_to, lowest_raised, listing_lines, index_table, BreaksIn}
use Rattle.listing_lines.specs.Handed.{Listing}
use Rattle.listing_write.specs.Progress.{CellsNumbered, Appended, Numbered}
use Rattle.listing_lines.proofs.IndexNumbers.{known_table}
use Rattle.listing_write.proofs.Appending.{append_none, append_then, cells_numbered}
use Rattle.listing_lines.proofs.Ending.{breaks_facts, last_in, last_raised}
use Rattle.listing_lines.proofs.LineCounts.{lines_next, lines_within, listing_count}
use Rattle.listing_write.proofs.HandedOver.{listing_handed}
use Rattle.listing_write.proofs.ExactTables.{copy_exact, exact_on, round_exact, breaks_after, breaks_running, table_room}
use Rattle.listing_write.proofs.IndexStores.{numbered_one}
use Rattle.listing_write.specs.Entries.{RoundToList}
use Rattle.listing_write.specs.RoundLines.{lowest_of, RaisesFirst, RoundReady, RoundListed, ListingStarted, RoundsListed}

-- ---- the lowest raised cell
module _ (T U : List ℕ) (w : ℕ) where
  pub lowest_start : lowest_raised T U 0 w ≡ lowest_raised T U 0 (w - 0)
  lowest_start = ap (lowest_raised T U 0) (omega arith)

  pub lowest_here : (c : ℕ) → c < w → get_or T c 0 < get_or U c 0 → lowest_raised T U 0 w ≡ lowest_raised T U c (w - c) → c ≡ lowest_raised T U 0 w
  unfolding lowest_raised
  lowest_here c h u e =
      let n : w - c ≡ suc (w - (c + 1)) = omega arith in
      let z : lowest_raised T U c (suc (w - (c + 1))) ≡ c = rw (lt-ltb (get_or T c 0) (get_or U c 0) u) refl in
      sym (e ∙ ap (lowest_raised T U c) n ∙ z)

  pub lowest_on : (c : ℕ) → c < w → get_or U c 0 ≤ get_or T c 0 → lowest_raised T U 0 w ≡ lowest_raised T U c (w - c) → lowest_raised T U 0 w ≡ lowest_raised T U (c + 1) (w - (c + 1))
  unfolding lowest_raised
  lowest_on c h u e =
      let n : w - c ≡ suc (w - (c + 1)) = omega arith in
      let z : lowest_raised T U c (suc (w - (c + 1))) ≡ lowest_raised T U (suc c) (w - (c + 1)) = rw (le-ltb (get_or T c 0) (get_or U c 0) u) refl in
      e ∙ ap (lowest_raised T U c) n ∙ z ∙ ap (λ (k : ℕ). lowest_raised T U k (w - (c + 1))) (sym (add-one c))

  pub lowest_none : (c : ℕ) → c ≡ w → lowest_raised T U 0 w ≡ lowest_raised T U c (w - c) → w ≡ lowest_raised T U 0 w
  unfolding lowest_raised
  lowest_none c h e = let n : w - c ≡ 0 = omega arith in sym (e ∙ ap (lowest_raised T U c) n ∙ h)

-- ---- one round
module _ (plan marks : List ℕ) (horizon : ℕ) (F G I out : List ℕ) (m at : ℕ) (d : RoundReady plan marks horizon F G I out m at) where
  -- the second table was filled
  module _ (G₁ : List ℕ) (filled : G₁ ≡ laid_over (cells (plan_of plan)) (next (plan_with plan horizon) (take (cells (plan_of plan)) F)) G) (as_long : length G₁ ≡ length G) where
    pub filled_next : G₁ ≡ next (plan_of plan) F
    filled_next = round_exact plan marks horizon F G d.exact G₁ filled

    pub ready_round : RoundToList plan marks horizon F G₁ I out m at
    ready_round = record { exact = exact_on plan marks horizon F G d.exact F G₁ refl as_long; is_next = filled_next; numbers = d.numbers; listing = d.listing }

    -- its lines, by the table filled
    pub filled_lines : raised_lines (plan_of plan) F G₁ (cells (plan_of plan)) ≡ raised_lines (plan_of plan) F (next (plan_of plan) F) (cells (plan_of plan))
    filled_lines = ap (λ (x : List ℕ). raised_lines (plan_of plan) F x (cells (plan_of plan))) filled_next

    pub filled_room : at + length (raised_lines (plan_of plan) F (next (plan_of plan) F) (cells (plan_of plan))) < m → at + length (raised_lines (plan_of plan) F G₁ (cells (plan_of plan))) < m
    filled_room h = omega (arith, ap length filled_lines)

    pub filled_lowest : ◌≡◌ {A = List Line} (line_at (plan_of plan) G₁ (lowest_of (plan_of plan) F) ∷ []) (line_at (plan_of plan) (next (plan_of plan) F) (lowest_of (plan_of plan) F) ∷ [])
    filled_lowest = ap (λ (x : List ℕ). line_at (plan_of plan) x (lowest_of (plan_of plan) F) ∷ []) filled_next

    -- and copied to the first, by the code's number e of cells
    pub round_listed : (ks js : List Line) (e : ℕ) (F' I' out' : List ℕ) → js ≡ ks → e ≡ cells (plan_of plan) → F' ≡ laid_over e G₁ F → length F' ≡ length F → length I' ≡ length I → Numbered (plan_of plan) at js I I' → Appended (plan_of plan) at js out out' → RoundListed (plan_of plan) ks at F G I out F' G₁ I' out'
    round_listed ks js e F' I' out' q k f lf li n s = record {
      first_is = copy_exact e G₁ F F' (as_long ∙ d.exact.second_length ∙ sym k) (d.exact.first_length ∙ sym k) f ∙ filled_next;
      second_is = filled_next;
      first_length = lf;
      second_length = as_long;
      index_length = li;
      numbered = subst (λ (x : List Line). Numbered (plan_of plan) at x I I') q n;
      written = subst (λ (x : List Line). Appended (plan_of plan) at x out out') q s;
    }

-- ---- the last line; the code's numbers w and c are the cells of a point and the lowest raised one
module _ (plan marks : List ℕ) (horizon : ℕ) (F G I out : List ℕ) (m w : ℕ) (d : RoundToList plan marks horizon F G I out m (m - 1)) (ew : w ≡ width (plan_of plan)) where
  pub width_fits : (w ≤ length F) × (w ≤ length G)
  width_fits = let h = width_le (plan_of plan) (accepted_well_formed plan d.exact.accepted) in (omega (arith, d.exact.first_length), omega (arith, d.exact.second_length))

  module _ (raises : RaisesFirst (plan_of plan) F) (c : ℕ) (ec : c ≡ lowest_raised F G 0 w) where
    lowest_is : c ≡ lowest_of (plan_of plan) F
    lowest_is = ec ∙ ap₂ (λ (x : List ℕ) (k : ℕ). lowest_raised F x 0 k) d.is_next ew

    pub lowest_in : c < cells (plan_of plan)
    lowest_in = omega (arith, width_le (plan_of plan) (accepted_well_formed plan d.exact.accepted), raises.in_first, lowest_is)

    pub lowest_raised_lem : get_or F c 0 < get_or G c 0
    lowest_raised_lem = subst (λ (x : List ℕ). get_or F c 0 < get_or x c 0) (sym d.is_next) (subst (λ (k : ℕ). get_or F k 0 < get_or (next (plan_of plan) F) k 0) (sym lowest_is) raises.is_raised)

    pub lowest_listed : (out' : List ℕ) → Appended (plan_of plan) (m - 1) (line_at (plan_of plan) G c ∷ []) out out' → Appended (plan_of plan) (m - 1) (line_at (plan_of plan) G (lowest_of (plan_of plan) F) ∷ []) out out'
    lowest_listed out' s = subst (λ (k : ℕ). Appended (plan_of plan) (m - 1) (line_at (plan_of plan) G k ∷ []) out out') lowest_is s

    pub lowest_numbered : (n : ℕ) (I' : List ℕ) → n ≡ (plan_of plan).points → I' ≡ set I c (n + (m - 1)) → Numbered (plan_of plan) (m - 1) (line_at (plan_of plan) G (lowest_of (plan_of plan) F) ∷ []) I I'
    lowest_numbered n I' en e = subst (λ (k : ℕ). Numbered (plan_of plan) (m - 1) (line_at (plan_of plan) G k ∷ []) I I') lowest_is (numbered_one (plan_of plan) (m - 1) c (n + (m - 1)) (line_at (plan_of plan) G c) I I' (cell_at (plan_of plan) G c) lowest_in (ap (λ (k : ℕ). k + (m - 1)) en) e)

-- ---- all rounds before the last
pub listing_started : (plan marks : List ℕ) (horizon : ℕ) (F G I out : List ℕ) (m r : ℕ) → Accepted plan → Marks marks → horizon ≡ (plan_of plan).horizon → length F ≡ cells (plan_of plan) → length G ≡ cells (plan_of plan) → BreaksIn (plan_of plan) r → m ≡ length (listing_lines (plan_of plan) r) → m ≤ 4096
    → F ≡ table (plan_of plan) 0 → I ≡ index_table (plan_of plan) [] → line_count out ≡ m → length out ≡ 2 + 14 * m → ListingStarted plan marks horizon F G I out m (r - 1)
listing_started plan marks horizon F G I out m r a k h f g b n few ef ei eo lo =
    let e = breaks_after (plan_of plan) r b in
    record {
      exact = record { accepted = a; marked = k; horizon_is = h; first_length = f; second_length = g };
      breaks = subst (BreaksIn (plan_of plan)) e b;
      first_is = ef;
      index_is = ei;
      lines_are = n ∙ ap (λ (x : ℕ). length (listing_lines (plan_of plan) x)) e ∙ listing_count (plan_of plan) (r - 1);
      listing = record { count = eo; long = lo; few = few };
    }

pub none_listed : (P : Plan) → ◌≡◌ {A = ℕ} 0 (length (lines_to P 0))
unfolding lines_to
none_listed P = refl

module _ (plan marks : List ℕ) (horizon : ℕ) (F G I out : List ℕ) (m s : ℕ) (b : ListingStarted plan marks horizon F G I out m s) where
  pub rounds_start : RoundsListed (plan_of plan) 0 F G I out F G I out
  unfolding lines_to
  rounds_start = record { first_is = b.first_is; index_is = b.index_is; written = append_none (plan_of plan) 0 out; first_length = refl; second_length = refl; index_length = refl }

  module _ (r at : ℕ) (F' G' I' out' : List ℕ) (at_is : at ≡ length (lines_to (plan_of plan) r)) (t : RoundsListed (plan_of plan) r F G I out F' G' I' out') where
    rounds_numbered : CellsNumbered (plan_of plan) F' I' out' at
    rounds_numbered = rw (t.first_is, t.index_is, at_is) (cells_numbered (plan_of plan) (lines_to (plan_of plan) r) (table (plan_of plan) r) out out' (λ c h. known_table (plan_of plan) (accepted_well_formed plan b.exact.accepted) r c h) t.written)

    pub rounds_ready : r ≤ s → RoundReady plan marks horizon F' G' I' out' m at
    rounds_ready h = record {
      exact = exact_on plan marks horizon F G b.exact F' G' t.first_length t.second_length;
      small = rw t.first_is (table_room plan b.exact.accepted s b.breaks r h);
      numbers = rounds_numbered;
      listing = record { count = t.written.counted ∙ b.listing.count; long = t.written.as_long ∙ b.listing.long; few = b.listing.few };
    }

    pub rounds_room : r < s → at + length (raised_lines (plan_of plan) F' (next (plan_of plan) F') (cells (plan_of plan))) < m
    rounds_room h =
        let z : suc r + (s - suc r) ≡ s = omega arith in
        let w = lines_within (plan_of plan) (suc r) (s - suc r) in
        rw t.first_is (omega (arith, at_is, b.lines_are, lines_next (plan_of plan) r, rw z at w))

    pub rounds_more : (n : ℕ) (F'' G'' I'' out'' : List ℕ) → n ≡ at + length (raised_lines (plan_of plan) F' (next (plan_of plan) F') (cells (plan_of plan)))
        → RoundListed (plan_of plan) (raised_lines (plan_of plan) F' (next (plan_of plan) F') (cells (plan_of plan))) at F' G' I' out' F'' G'' I'' out''
        → (n ≡ length (lines_to (plan_of plan) (r + 1))) × RoundsListed (plan_of plan) (r + 1) F G I out F'' G'' I'' out''
    unfolding lines_to
    rounds_more n F'' G'' I'' out'' e l =
        let k : r + 1 ≡ suc r = add-one r in
        let same : raised_lines (plan_of plan) F' (next (plan_of plan) F') (cells (plan_of plan)) ≡ raised_lines (plan_of plan) (table (plan_of plan) r) (table (plan_of plan) (suc r)) (cells (plan_of plan)) = ap (λ (x : List ℕ). raised_lines (plan_of plan) x (next (plan_of plan) x) (cells (plan_of plan))) t.first_is in (
          rw k (e ∙ ap₂ ◌+◌ at_is (ap length same) ∙ sym (lines_next (plan_of plan) r)),
          rw k (record {
            first_is = l.first_is ∙ ap (next (plan_of plan)) t.first_is;
            index_is = l.numbered.numbers (lines_to (plan_of plan) r) (sym at_is) t.index_is ∙ ap (λ (x : List Line). index_table (plan_of plan) (lines_to (plan_of plan) r ++ x)) same;
            written = subst (λ (x : List Line). Appended (plan_of plan) 0 (lines_to (plan_of plan) r ++ x) out out'') same (append_then (plan_of plan) (omega (arith, (accepted_well_formed plan b.exact.accepted).two)) 0 (lines_to (plan_of plan) r) _ out out' out'' at (omega arith) t.written l.written);
            first_length = l.first_length ∙ t.first_length;
            second_length = l.second_length ∙ t.second_length;
            index_length = l.index_length ∙ t.index_length;
          }),
        )

  -- ---- the last round
  module _ (F' G' I' out' : List ℕ) (t : RoundsListed (plan_of plan) s F G I out F' G' I' out') where
    before_last : m - 1 ≡ length (lines_to (plan_of plan) s)
    before_last = omega (arith, b.lines_are)

    pub last_ready : RoundReady plan marks horizon F' G' I' out' m (m - 1)
    last_ready = rounds_ready s (m - 1) F' G' I' out' before_last t (omega arith)

    pub some_line : 1 ≤ m
    some_line = omega (arith, b.lines_are)

    pub last_raises : RaisesFirst (plan_of plan) F'
    last_raises =
        let wf = accepted_well_formed plan b.exact.accepted in
        let f = breaks_facts (plan_of plan) (suc s) (suc s) b.breaks.breaks in
        let e : f.before ≡ s = omega (arith, f.is_after) in
        let g = breaks_running (plan_of plan) s b.breaks in
        rw t.first_is (record { in_first = last_in (plan_of plan) wf s g (rw e at f.waits); is_raised = last_raised (plan_of plan) wf s g (rw e at f.waits) })

    module _ (F'' G'' I'' out'' : List ℕ) (l : RoundListed (plan_of plan) (line_at (plan_of plan) (next (plan_of plan) F') (lowest_of (plan_of plan) F') ∷ []) (m - 1) F' G' I' out' F'' G'' I'' out'') where
      last_is : lines_to (plan_of plan) s ++ (line_at (plan_of plan) (next (plan_of plan) F') (lowest_of (plan_of plan) F') ∷ []) ≡ listing_lines (plan_of plan) (suc s)
      unfolding listing_lines
      last_is = ap (λ (x : List ℕ). lines_to (plan_of plan) s ++ (line_at (plan_of plan) (next (plan_of plan) x) (lowest_of (plan_of plan) x) ∷ [])) t.first_is

      lines_counted : m ≡ length (listing_lines (plan_of plan) (suc s))
      lines_counted = b.lines_are ∙ sym (listing_count (plan_of plan) s)

      all_written : Appended (plan_of plan) 0 (listing_lines (plan_of plan) (suc s)) out out''
      all_written = subst (λ (x : List Line). Appended (plan_of plan) 0 x out out'') last_is (append_then (plan_of plan) (omega (arith, (accepted_well_formed plan b.exact.accepted).two)) 0 (lines_to (plan_of plan) s) _ out out' out'' (m - 1) (omega (arith, before_last)) t.written l.written)

      done_first : F'' ≡ table (plan_of plan) (suc s)
      done_first = l.first_is ∙ ap (next (plan_of plan)) t.first_is

      done_second : G'' ≡ table (plan_of plan) (suc s)
      done_second = l.second_is ∙ ap (next (plan_of plan)) t.first_is

      done_index : I'' ≡ index_table (plan_of plan) (listing_lines (plan_of plan) (suc s))
      done_index = l.numbered.numbers (lines_to (plan_of plan) s) (sym before_last) t.index_is ∙ ap (index_table (plan_of plan)) last_is

      done_listing : Listing plan out'' (suc s)
      done_listing = listing_handed plan b.exact.accepted (suc s) b.breaks out'' (all_written.counted ∙ b.listing.count ∙ lines_counted) out all_written (all_written.as_long ∙ b.listing.long ∙ ap (λ (x : ℕ). 2 + 14 * x) lines_counted) (rw (← lines_counted) b.listing.few)

      pub done_all : (r : ℕ) → r ≡ suc s → (F'' ≡ table (plan_of plan) r) × (G'' ≡ table (plan_of plan) r) × (I'' ≡ index_table (plan_of plan) (listing_lines (plan_of plan) r)) × Listing plan out'' r
      done_all r e = rw e (done_first, done_second, done_index, done_listing)
