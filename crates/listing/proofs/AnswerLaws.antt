-- Laws of the listing handed over: parts lent and back, refusal 7, and the answers by the check's.
use mathlib.Core.Path.{◌≡◌, refl, sym, ap, ap₂, subst, ◌∙◌}
use mathlib.Core.Bool.{Bool, true, false, ◌||◌}
use mathlib.Core.List.{List, ◌++◌}
use Prim.Native.Nat.{ℕ, ◌+◌, ◌-◌, ◌*◌, ◌≤◌, ◌<◌, min}
use native.Mathlib.Decide.{dec_le}
use native.Mathlib.Omega.{arith}
use borrow.Author.Tests.{lt-ltb, le-ltb, eq-eqb, ne_eqb}
use lib.Dec.{ltb, eqb}
use lib.ListN.{length, take, drop, length-append, length-drop}
use lib.Seq.{length-take-le, take_at, drop_at}
use Rattle.plan.specs.Moments.{Moments}
use Rattle.plan.specs.Plan.{Plan, cells}
use Rattle.plan.specs.Layout.{plan_of}
use Rattle.plan.specs.Refusal.{Accepted, refusal}
use Rattle.plan.proofs.Ranges.{accepted_well_formed}
use Rattle.rounds_making.specs.Rounds.{zeros}
use Rattle.rounds_making.specs.Outcomes.{Outcome, kept, broken, spent, refused, pick, run_outcome}
use Rattle.rounds.specs.CheckOutcomes.{is_too_short, check_outcome, check_table}
use Rattle.rounds.specs.Meaning.{IsSpent, Meaning}
use Rattle.rounds.specs.AfterCheck.{AfterCheck}
use Rattle.rounds.proofs.Meanings.{refused_means}
use Rattle.rounds.proofs.Checking.{check_runs, check_leaves, refused_outcome, refused_table, short_outcome, short_first, short_second}
use Rattle.listing_lines.specs.Listed.{table, listing_lines, index_table, BreaksIn}
use Rattle.listing_lines.specs.Handed.{Listing}
use Rattle.listing_lines.proofs.IndexLaws.{index_length}
use Rattle.listing_lines.proofs.Ending.{breaks_in, breaks_table}
use Rattle.listing_lines.proofs.LineCounts.{lines_many, listing_count}
use Rattle.listing_write.proofs.ExactTables.{breaks_after, breaks_running, exact_length}
use Rattle.listing.specs.ListOutcomes.{listing_length, too_long, with_listing, index_short, list_outcome, list_table}
use Rattle.listing.specs.AfterList.{AfterList}
use Rattle.listing.specs.Answering.{BrokenTables, BrokenLent, BrokenWith, ListingLeft, Answered}

-- ---- parts lent and back
pub cut_length : (n : ℕ) (xs : List ℕ) → n ≤ length xs → n ≡ length (take n xs)
cut_length n xs h = sym (length-take-le n xs h)

-- the code's number e is the cells
module _ (plan F G : List ℕ) (r e : ℕ) (k : BrokenTables plan F G r) (ee : e ≡ cells (plan_of plan)) where
  -- the 16-bit table and the output
  pub listing_left : (b : ℕ) (I out X O : List ℕ) → cells (plan_of plan) ≤ length I → b ≡ listing_length (plan_of plan) r → b ≤ length out → X ≡ index_table (plan_of plan) (listing_lines (plan_of plan) r) → Listing plan O r → length O ≡ length (take b out) → ListingLeft plan r I out (X ++ drop e I) (O ++ drop b out)
  listing_left b I out X O h is_length room ex l eo = record {
    index_is = ap₂ (λ (x : List ℕ) (n : ℕ). x ++ drop n I) ex ee;
    handed = record { listing = subst (λ (x : List ℕ). Listing plan x r) (sym (take_at O (drop b out) (listing_length (plan_of plan) r) bytes)) l; past = drop_at O (drop b out) (listing_length (plan_of plan) r) bytes ∙ ap (λ (n : ℕ). drop n out) is_length; as_long = length-append O (drop b out) ∙ omega (arith, bytes, is_length, length-drop b out) };
    index_length = length-append X (drop e I) ∙ omega (arith, ap length ex, index_length (plan_of plan) (listing_lines (plan_of plan) r), length-drop e I);
  }
    where
      bytes : length O ≡ listing_length (plan_of plan) r
      bytes = eo ∙ sym (cut_length b out room) ∙ is_length

pub listing_bytes : (P : Plan) (r m : ℕ) → m ≡ length (listing_lines P r) → 2 + 14 * m ≡ listing_length P r
unfolding listing_length
listing_bytes P r m e = ap (λ (k : ℕ). 2 + 14 * k) e

-- ---- refusal 7
module _ (P : Plan) (r room : ℕ) where
  or_true : (a b : Bool) → b ≡ true → a || b ≡ true
  or_true true b e = refl
  or_true false b e = e

  many_lines : 4096 < length (listing_lines P r) → too_long P r room ≡ true
  unfolding too_long
  many_lines h = rw (lt-ltb 4096 (length (listing_lines P r)) h) refl

  -- the code's count n, as far as 4,097
  module _ (n : ℕ) (en : n ≡ min 4097 (length (listing_lines P r))) where
    pub many_counted : 4096 < n → too_long P r room ≡ true
    many_counted h = many_lines (omega arith)

    pub few_counted : n ≤ 4096 → n ≡ length (listing_lines P r)
    few_counted h = omega arith

    pub no_room : n ≤ 4096 → room < 2 + 14 * n → too_long P r room ≡ true
    unfolding too_long listing_length
    no_room h k = let z = few_counted h in let w : room < 2 + 14 * length (listing_lines P r) = omega (arith, z) in or_true (ltb 4096 (length (listing_lines P r))) (ltb room (2 + 14 * length (listing_lines P r))) (lt-ltb room (2 + 14 * length (listing_lines P r)) w)

    pub has_room : n ≤ 4096 → 2 + 14 * n ≤ room → too_long P r room ≡ false
    unfolding too_long listing_length
    has_room h k =
        let z = few_counted h in
        let a : length (listing_lines P r) ≤ 4096 = omega (arith, z) in
        let b : 2 + 14 * length (listing_lines P r) ≤ room = omega (arith, z) in
        rw (le-ltb 4096 (length (listing_lines P r)) a, le-ltb room (2 + 14 * length (listing_lines P r)) b) refl

-- each round before the last has a line
pub many_rounds : (plan : List ℕ) (r room : ℕ) → Accepted plan → BreaksIn (plan_of plan) r → 4096 < r → too_long (plan_of plan) r room ≡ true
many_rounds plan r room a b h =
    let e = breaks_after (plan_of plan) r b in
    let n = lines_many (plan_of plan) (accepted_well_formed plan a) (r - 1) (breaks_running (plan_of plan) (r - 1) (subst (BreaksIn (plan_of plan)) e b)) in
    many_lines (plan_of plan) r room (omega (arith, n, ap (λ (x : ℕ). length (listing_lines (plan_of plan) x)) e, listing_count (plan_of plan) (r - 1)))

-- ---- the answers
module _ (plan I out : List ℕ) where
  -- broken, and refused with 7
  pub answered_seven : (r : ℕ) → too_long (plan_of plan) r (length out) ≡ true → Answered plan (broken r) (refused 7) 0 I out I out
  answered_seven r e = record { answer_is = rw e refl; length_is = refl; index_is = refl; output_is = refl; index_length = refl; output_length = refl }

  -- broken, with its listing
  pub answered_broken : (r b : ℕ) (I' out' : List ℕ) → too_long (plan_of plan) r (length out) ≡ false → b ≡ listing_length (plan_of plan) r → ListingLeft plan r I out I' out' → Answered plan (broken r) (broken r) b I out I' out'
  answered_broken r b I' out' e eb h = record { answer_is = rw e refl; length_is = eb; index_is = h.index_is; output_is = h.handed; index_length = h.index_length; output_length = h.handed.as_long }

  pub answered_refused : (o : Outcome) (n : ℕ) → o ≡ refused n → Answered plan o (refused n) 0 I out I out
  answered_refused o n e = record { answer_is = rw e refl; length_is = refl; index_is = refl; output_is = refl; index_length = refl; output_length = refl }

-- ---- after the check
module _ (plan F G : List ℕ) (limit : ℕ) (accepted : Accepted plan) where
  -- a plan that broke had tables long enough
  broken_long : (r : ℕ) → broken r ≡ check_outcome plan F G limit → (is_too_short (plan_of plan) F G ≡ true → ⊥)
  broken_long r e h = let q = short_outcome plan F G limit accepted h in let z : ◌≡◌ {A = ℕ} 0 1 = cc in absurd (omega arith)

  module _ (I : List ℕ) (long_index : cells (plan_of plan) ≤ length I) (F' G' : List ℕ) (ef : F' ≡ check_table plan F G limit F) (eg : G' ≡ check_table plan F G limit G) (r : ℕ) (e : broken r ≡ check_outcome plan F G limit) where
    long_first : Dec (cells (plan_of plan) ≤ length F) → cells (plan_of plan) ≤ length F
    long_first (yes h) = h
    long_first (no h) = absurd (broken_long r e (short_first (plan_of plan) F G (omega arith)))

    long_second : cells (plan_of plan) ≤ length F → Dec (cells (plan_of plan) ≤ length G) → cells (plan_of plan) ≤ length G
    long_second f (yes h) = h
    long_second f (no h) = absurd (broken_long r e (short_second (plan_of plan) F G f (omega arith)))

    tables_broken : (f : cells (plan_of plan) ≤ length F) → (g : cells (plan_of plan) ≤ length G) → BrokenLent plan F' G' I r
    tables_broken f g = record { tables = record { accepted = accepted; breaks = breaks_in (plan_of plan) limit r runs; long_first = longer F f F' (ef ∙ held F); long_second = longer G g G' (eg ∙ held G); first_holds = cut F F' (ef ∙ held F); second_holds = cut G G' (eg ∙ held G) }; long_index = long_index }
      where
        runs : run_outcome (plan_of plan) (zeros (plan_of plan)) limit ≡ broken r
        runs = sym (check_runs plan F G limit accepted f g) ∙ sym e

        held : (L : List ℕ) → check_table plan F G limit L ≡ table (plan_of plan) r ++ drop (cells (plan_of plan)) L
        held L = check_leaves plan F G limit accepted f g L ∙ ap (λ (x : List ℕ). x ++ drop (cells (plan_of plan)) L) (breaks_table (plan_of plan) limit r runs)

        longer : (L : List ℕ) → cells (plan_of plan) ≤ length L → (X : List ℕ) → X ≡ table (plan_of plan) r ++ drop (cells (plan_of plan)) L → cells (plan_of plan) ≤ length X
        longer L h X q = omega (arith, ap length q ∙ length-append (table (plan_of plan) r) (drop (cells (plan_of plan)) L), exact_length plan accepted r)

        cut : (L X : List ℕ) → X ≡ table (plan_of plan) r ++ drop (cells (plan_of plan)) L → take (cells (plan_of plan)) X ≡ table (plan_of plan) r
        cut L X q = ap (take (cells (plan_of plan))) q ∙ take_at (table (plan_of plan) r) (drop (cells (plan_of plan)) L) (cells (plan_of plan)) (exact_length plan accepted r)

    lent_broken : BrokenLent plan F' G' I r
    lent_broken = let f = long_first (dec_le (cells (plan_of plan)) (length F)) in tables_broken f (long_second f (dec_le (cells (plan_of plan)) (length G)))

  pub check_follows : (I : List ℕ) → cells (plan_of plan) ≤ length I → (F' G' : List ℕ) → F' ≡ check_table plan F G limit F → G' ≡ check_table plan F G limit G → (o : Outcome) → o ≡ check_outcome plan F G limit → BrokenWith plan F' G' I o
  check_follows I h F' G' ef eg (kept r) e = tt
  check_follows I h F' G' ef eg (broken r) e = lent_broken I h F' G' ef eg r e
  check_follows I h F' G' ef eg (spent r) e = tt
  check_follows I h F' G' ef eg (refused n) e = tt

-- ---- what the answers mean: a listing answers as the check does, or refuses
pub listed_means : (P : Plan) (limit room : ℕ) (o : Outcome) (F G : List ℕ) → Meaning P limit o F G → Meaning P limit (with_listing P room o) F G
listed_means P limit room (kept r) F G d = d
listed_means P limit room (broken r) F G d = go (too_long P r room)
  where
    go : (b : Bool) → Meaning P limit (pick b (refused 7) (broken r)) F G
    go true = refused_means P limit 7 F G
    go false = d
listed_means P limit room (spent r) F G d = d
listed_means P limit room (refused n) F G d = d

listed_spent : (P : Plan) (room : ℕ) (o : Outcome) → IsSpent (with_listing P room o) → IsSpent o
listed_spent P room (kept r) s = s
listed_spent P room (broken r) s = go (too_long P r room) s
  where
    go : (b : Bool) → IsSpent (pick b (refused 7) (broken r)) → ⊥
    go true s = s
    go false s = s
listed_spent P room (spent r) s = s
listed_spent P room (refused n) s = s

-- ---- all that the listing promises
-- what a call left as it was
abbrev untouched : List ℕ → Moments
untouched L = record { entry = L; exit = L }

abbrev left : List ℕ → List ℕ → Moments
left L L' = record { entry = L; exit = L' }

module _ (plan F G : List ℕ) (limit : ℕ) (I out : List ℕ) where
  -- the plan is refused
  pub list_refused : (k : ℕ) → k ≡ refusal plan → (k ≡ 0 → ⊥) → AfterList plan limit (untouched F) (untouched G) (untouched I) (untouched out) (refused k) 0
  unfolding list_outcome list_table index_short
  list_refused k e n =
      let b : eqb (refusal plan) 0 ≡ false = ne_eqb (refusal plan) 0 (λ z. n (e ∙ z)) in
      record { outcome_is = rw (b, ← (refused_outcome plan F G limit k e n)) refl; length_is = refl; first_is = rw b (refused_table plan F G limit k e n F); second_is = rw b (refused_table plan F G limit k e n G); index_is = refl; output_is = refl; means = refused_means (plan_of plan) limit k F G; serves = λ h s. s }

  -- the 16-bit table is too short
  pub list_short : Accepted plan → length I < cells (plan_of plan) → AfterList plan limit (untouched F) (untouched G) (untouched I) (untouched out) (refused 6) 0
  unfolding list_outcome list_table index_short
  list_short a h =
      let b = eq-eqb (refusal plan) 0 a in
      let c = lt-ltb (length I) (cells (plan_of plan)) h in
      record { outcome_is = rw (b, c) refl; length_is = refl; first_is = rw (b, c) refl; second_is = rw (b, c) refl; index_is = refl; output_is = refl; means = refused_means (plan_of plan) limit 6 F G; serves = λ h s. s }

  -- the check answered
  pub list_answered : Accepted plan → cells (plan_of plan) ≤ length I → (o a : Outcome) (b : ℕ) (F₁ G₁ F' G' I' out' : List ℕ) → AfterCheck plan limit (left F F₁) (left G G₁) o → F' ≡ F₁ → G' ≡ G₁ → Answered plan o a b I out I' out' → AfterList plan limit (left F F') (left G G') (left I I') (left out out') a b
  unfolding list_outcome list_table index_short
  list_answered acc h o a b F₁ G₁ F' G' I' out' k f g s =
      let x = eq-eqb (refusal plan) 0 acc in
      let y = le-ltb (length I) (cells (plan_of plan)) h in
      record {
        outcome_is = rw (x, y, ← k.outcome_is) s.answer_is;
        length_is = s.length_is;
        first_is = rw (x, y) (f ∙ k.first_is);
        second_is = rw (x, y) (g ∙ k.second_is);
        index_is = s.index_is;
        output_is = s.output_is;
        means = rw (s.answer_is, f, g) (listed_means (plan_of plan) limit (length out) o F₁ G₁ k.means);
        serves = λ h q. k.serves h (listed_spent (plan_of plan) (length out) o (rw s.answer_is at q));
      }
