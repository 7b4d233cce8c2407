-- What the call promises, refusal by refusal and where it marks the rows.
use mathlib.Core.Path.{◌≡◌, refl, sym, ap, ◌∙◌}
use mathlib.Core.Bool.{Bool, true, false, cond, not}
use mathlib.Core.List.{List, ◌++◌}
use Prim.Native.Nat.{ℕ, ◌≤◌, ◌<◌}
use native.Mathlib.Omega.{arith}
use lib.Dec.{eqb}
use lib.ListN.{length, drop, length-replicate}
use lib.Seq.{take_at, drop_at}
use borrow.Author.Tests.{lt-ltb, le-ltb, eq-eqb, ne_eqb}
use Rattle.plan.specs.Moments.{Moments}
use Rattle.plan.specs.Plan.{Plan, cells}
use Rattle.plan.specs.Layout.{plan_of}
use Rattle.plan.specs.Horizons.{plan_with}
use Rattle.plan.specs.Refusal.{Accepted, refusal}
use Rattle.plan.proofs.Ranges.{accepted_well_formed}
use Rattle.plan_rows.specs.Rows.{marked}
use Rattle.rounds_making.specs.Rounds.{zeros}
use Rattle.rounds_making.specs.Outcomes.{Outcome, run_outcome, run_table}
use Rattle.rounds_making.proofs.TableLengths.{run_length}
use Rattle.rounds.specs.Meaning.{enough_rounds}
use Rattle.rounds.specs.FromZeros.{RanFromZeros}
use Rattle.plan.proofs.RefusalNumbers.{at_most, refusal_few, refusal_never}
use Rattle.minimal_rows.specs.Trials.{trial_outcome, trial_table, is_kept, is_broken, all_rows, breaking_marks}
use Rattle.minimal_rows.specs.BreakingRows.{rows, refused, rows_too_short, rows_refusal, rows_outcome, rows_marks, rows_table}
use Rattle.minimal_rows.specs.AfterBreakingRows.{AfterBreakingRows}
use Rattle.minimal_rows.specs.Lent.{MarksLent}
use Rattle.minimal_rows.specs.Reducing.{RowsLeft}
use Rattle.minimal_rows.proofs.TrialLaws.{trial_means, whole_outcome, whole_table, whole_kept, whole_broken}
use Rattle.minimal_rows.proofs.ProcedureLaws.{tried_length, breaking_minimal, links_alone}

-- ---- by the number of the refusal
module _ (bs F G R : List ℕ) where
  module _ (n : ℕ) (e : rows_refusal bs F G R ≡ n) (ne : n ≡ 0 → ⊥) where
    refused_outcome : refused n ≡ rows_outcome bs F G R
    unfolding rows_outcome
    refused_outcome = rw (e, ne_eqb n 0 ne) refl

    refused_marks : R ≡ rows_marks bs F G R
    unfolding rows_marks
    refused_marks = rw (e, ne_eqb n 0 ne) refl

    refused_table : (n ≡ 16 → ⊥) → (L : List ℕ) → L ≡ rows_table bs F G R L
    unfolding rows_table
    refused_table nk L = rw (e, ne_eqb n 0 ne, ne_eqb n 16 nk) refl

  kept_table : rows_refusal bs F G R ≡ 16 → (L : List ℕ) → trial_table (plan_of bs) (all_rows (plan_of bs)) ++ drop (cells (plan_of bs)) L ≡ rows_table bs F G R L
  unfolding rows_table
  kept_table e L = rw e refl

  module _ (e : rows_refusal bs F G R ≡ 0) where
    rows_outcome_lem : rows (length (marked (breaking_marks (plan_of bs)))) ≡ rows_outcome bs F G R
    unfolding rows_outcome
    rows_outcome_lem = rw e refl

    rows_marks_lem : breaking_marks (plan_of bs) ++ drop (plan_of bs).edges R ≡ rows_marks bs F G R
    unfolding rows_marks
    rows_marks_lem = rw e refl

    rows_table_lem : (L : List ℕ) → trial_table (plan_of bs) (breaking_marks (plan_of bs)) ++ drop (cells (plan_of bs)) L ≡ rows_table bs F G R L
    unfolding rows_table
    rows_table_lem L = rw e refl

  -- ---- which refusal
  pub number_plan : (k : ℕ) → k ≡ refusal bs → (k ≡ 0 → ⊥) → rows_refusal bs F G R ≡ k
  unfolding rows_refusal
  number_plan k e n = rw (ne_eqb (refusal bs) 0 (λ z. n (e ∙ z)), e) refl

  pub number_short : Accepted bs → rows_too_short (plan_of bs) F G R ≡ true → rows_refusal bs F G R ≡ 6
  unfolding rows_refusal
  number_short a s = rw (eq-eqb (refusal bs) 0 a, s) refl

  module _ (accepted : Accepted bs) (lent : MarksLent (plan_of bs) F G R) where
    number_judged : (b : Bool) → is_kept (trial_outcome (plan_of bs) (all_rows (plan_of bs))) ≡ b → rows_refusal bs F G R ≡ cond b 16 0
    unfolding rows_refusal
    number_judged b k = rw (eq-eqb (refusal bs) 0 accepted, le-ltb (length F) (cells (plan_of bs)) lent.tables.long_first, le-ltb (length G) (cells (plan_of bs)) lent.tables.long_second, le-ltb (length R) (plan_of bs).edges lent.long_marks, k) refl

-- its number is small
pub rows_refusal_few : (bs F G R : List ℕ) → rows_refusal bs F G R ≤ 18
unfolding rows_refusal
rows_refusal_few bs F G R =
    let P = plan_of bs in
    at_most 18 (not (eqb (refusal bs) 0)) (refusal bs) _ (omega (arith, refusal_few bs))
    (at_most 18 (rows_too_short P F G R) 6 _ (omega arith) (at_most 18 (is_kept (trial_outcome P (all_rows P))) 16 0 (omega arith) (omega arith)))

-- which length is too short
module _ (P : Plan) (F G R : List ℕ) where
  pub short_first : length F < cells P → rows_too_short P F G R ≡ true
  short_first h = rw (lt-ltb (length F) (cells P) h) refl

  pub short_second : cells P ≤ length F → length G < cells P → rows_too_short P F G R ≡ true
  short_second f h = rw (le-ltb (length F) (cells P) f, lt-ltb (length G) (cells P) h) refl

  pub short_marks : cells P ≤ length F → cells P ≤ length G → length R < P.edges → rows_too_short P F G R ≡ true
  short_marks f g h = rw (le-ltb (length F) (cells P) f, le-ltb (length G) (cells P) g, lt-ltb (length R) P.edges h) refl

-- ---- all that the call promises
module _ (bs : List ℕ) (first second marks : Moments) where
  -- where it refused with another number than 16
  pub after_refusal : (n : ℕ) → rows_refusal bs first.entry second.entry marks.entry ≡ n → (n ≡ 0 → ⊥) → (n ≡ 16 → ⊥) → first.exit ≡ first.entry → second.exit ≡ second.entry → marks.exit ≡ marks.entry → AfterBreakingRows bs first second marks (refused n)
  after_refusal n e ne other f g m =
      let table = refused_table bs first.entry second.entry marks.entry n e ne other in
      record {
        outcome_is = refused_outcome bs first.entry second.entry marks.entry n e ne;
        first_is = f ∙ table first.entry;
        second_is = g ∙ table second.entry;
        marks_are = m ∙ refused_marks bs first.entry second.entry marks.entry n e ne;
        minimal = λ x. absurd x;
        links_alone = λ x. absurd x;
        trials_mean = trial_means bs;
      }

  pub plan_refused : (k : ℕ) → k ≡ refusal bs → (k ≡ 0 → ⊥) → first.exit ≡ first.entry → second.exit ≡ second.entry → marks.exit ≡ marks.entry → AfterBreakingRows bs first second marks (refused k)
  plan_refused k e n = after_refusal k (number_plan bs first.entry second.entry marks.entry k e n) n (λ q. refusal_never bs 16 (omega arith) (omega arith) (sym e ∙ q))

  pub short_refused : Accepted bs → rows_too_short (plan_of bs) first.entry second.entry marks.entry ≡ true → first.exit ≡ first.entry → second.exit ≡ second.entry → marks.exit ≡ marks.entry → AfterBreakingRows bs first second marks (refused 6)
  short_refused a s = after_refusal 6 (number_short bs first.entry second.entry marks.entry a s) (λ q. omega arith) (λ q. omega arith)

  module _ (accepted : Accepted bs) (lent : MarksLent (plan_of bs) first.entry second.entry marks.entry) where
    abbrev P : Plan
    P = plan_of bs

    -- the whole plan was run, with its own horizon and enough rounds
    whole_ran : (h limit : ℕ) (f g : Moments) (o : Outcome) → h ≡ P.horizon → limit ≡ enough_rounds P → RanFromZeros (plan_with bs h) limit f g o → RanFromZeros P (enough_rounds P) f g o
    whole_ran h limit f g o own e r = rw (own, e) at r

    -- where the plan is kept
    kept_refused : is_broken (run_outcome P (zeros P) (enough_rounds P)) ≡ false → first.exit ≡ run_table P (zeros P) (enough_rounds P) ++ drop (cells P) first.entry → second.exit ≡ run_table P (zeros P) (enough_rounds P) ++ drop (cells P) second.entry → marks.exit ≡ marks.entry
        → AfterBreakingRows bs first second marks (refused 16)
    kept_refused b f g m =
        let a = accepted in
        let e = number_judged bs first.entry second.entry marks.entry accepted lent true (whole_kept bs a (ap is_broken (whole_outcome bs a) ∙ b)) in
        let left : (L : List ℕ) → run_table P (zeros P) (enough_rounds P) ++ drop (cells P) L ≡ rows_table bs first.entry second.entry marks.entry L = λ L. ap (λ (l : List ℕ). l ++ drop (cells P) L) (sym (whole_table bs a)) ∙ kept_table bs first.entry second.entry marks.entry e L in
        record {
          outcome_is = refused_outcome bs first.entry second.entry marks.entry 16 e (λ q. omega arith);
          first_is = f ∙ left first.entry;
          second_is = g ∙ left second.entry;
          marks_are = m ∙ refused_marks bs first.entry second.entry marks.entry 16 e (λ q. omega arith);
          minimal = λ x. absurd x;
          links_alone = λ x. absurd x;
          trials_mean = trial_means bs;
        }

    -- where it is broken
    rows_marked : is_broken (run_outcome P (zeros P) (enough_rounds P)) ≡ true → (r : ℕ) → RowsLeft P first second marks r → AfterBreakingRows bs first second marks (rows r)
    rows_marked b r left =
        let a = accepted in
        let whole = ap is_broken (whole_outcome bs a) ∙ b in
        let e = number_judged bs first.entry second.entry marks.entry accepted lent false (whole_broken bs a whole) in
        record {
          outcome_is = ap rows left.rows_are ∙ rows_outcome_lem bs first.entry second.entry marks.entry e;
          first_is = left.first_is ∙ rows_table_lem bs first.entry second.entry marks.entry e first.entry;
          second_is = left.second_is ∙ rows_table_lem bs first.entry second.entry marks.entry e second.entry;
          marks_are = left.marks_are ∙ rows_marks_lem bs first.entry second.entry marks.entry e;
          minimal = λ x. rw (left.marks_are, take_at (breaking_marks P) (drop P.edges marks.entry) P.edges (tried_length P P.edges)) (breaking_minimal bs a whole);
          links_alone = λ x none. ap rows (left.rows_are ∙ links_alone bs a none);
          trials_mean = trial_means bs;
        }

    pub run_kept : (h limit : ℕ) (o : Outcome) → h ≡ P.horizon → limit ≡ enough_rounds P → RanFromZeros (plan_with bs h) limit first second o → is_broken o ≡ false → marks.exit ≡ marks.entry → AfterBreakingRows bs first second marks (refused 16)
    run_kept h limit o own e r b m = let w = whole_ran h limit first second o own e r in kept_refused (ap is_broken (sym w.outcome_is) ∙ b) w.first_is w.second_is m

    -- the rows were then tried with the tables that this run left
    pub run_broken : (h limit : ℕ) (F G : List ℕ) (o : Outcome) → h ≡ P.horizon → limit ≡ enough_rounds P → RanFromZeros (plan_with bs h) limit (record { entry = first.entry; exit = F }) (record { entry = second.entry; exit = G }) o → is_broken o ≡ true
        → (r : ℕ) → RowsLeft P (record { entry = F; exit = first.exit }) (record { entry = G; exit = second.exit }) marks r → AfterBreakingRows bs first second marks (rows r)
    run_broken h limit F G o own e ran b r left =
        let w = whole_ran h limit (record { entry = first.entry; exit = F }) (record { entry = second.entry; exit = G }) o own e ran in
        let sized = run_length P (accepted_well_formed bs accepted) (zeros P) (length-replicate (cells P) 0) (enough_rounds P) in
        let tail_first = ap (drop (cells P)) w.first_is ∙ drop_at (run_table P (zeros P) (enough_rounds P)) (drop (cells P) first.entry) (cells P) sized in
        let tail_second = ap (drop (cells P)) w.second_is ∙ drop_at (run_table P (zeros P) (enough_rounds P)) (drop (cells P) second.entry) (cells P) sized in
        rows_marked (ap is_broken (sym w.outcome_is) ∙ b) r (record {
          rows_are = left.rows_are;
          marks_are = left.marks_are;
          first_is = left.first_is ∙ ap (λ (l : List ℕ). trial_table P (breaking_marks P) ++ l) tail_first;
          second_is = left.second_is ∙ ap (λ (l : List ℕ). trial_table P (breaking_marks P) ++ l) tail_second;
          first_length = left.first_length ∙ w.first_length;
          second_length = left.second_length ∙ w.second_length;
          marks_length = left.marks_length;
        })
