-- The lent marks: all set, those of some rows taken away and given back, and in the end those of the procedure.
use mathlib.Core.Path.{◌≡◌, refl, sym, ap, ap₂, ◌∙◌}
use mathlib.Core.Bool.{true, false}
use mathlib.Core.List.{List, ◌++◌}
use Prim.Native.Nat.{ℕ, ◌+◌, ◌≤◌}
use native.Mathlib.Decide.{ℕ_discrete}
use native.Mathlib.Omega.{arith}
use lib.ListN.{length, get_or, take, drop, replicate, length-replicate, take-append-drop}
use lib.Seq.{take_at, drop_at, get_or-take}
use borrow.Author.Tests.{eq-eqb, ne_eqb}
use Rattle.plan.specs.Moments.{Moments}
use Rattle.plan.specs.Plan.{Plan}
use Rattle.plan.specs.Layout.{plan_of}
use Rattle.plan.specs.Refusal.{Accepted}
use Rattle.plan.proofs.Ranges.{accepted_bounded}
use Rattle.plan_rows.specs.Rows.{marked}
use Rattle.minimal_rows.specs.declared.trials.Trial.{Trial}
use Rattle.minimal_rows.specs.Trials.{trial_outcome, trial_table, is_broken, all_rows, tried_to, breaking_marks}
use Rattle.minimal_rows.specs.Lent.{MarksLent}
use Rattle.minimal_rows.specs.Reducing.{RowsTried, Tried, MarksAre, RowsLeft, set_run, reached}
use Rattle.minimal_rows.proofs.ProcedureLaws.{tried_length, tried_ahead}
use Rattle.minimal_rows.proofs.RunLaws.{run_length, take_run, drop_run, run_back, run_all, run_broken, run_kept}
use Rattle.minimal_rows.proofs.TrialsMade.{first_kept, second_kept}

abbrev pub since : List ℕ → List ℕ → Moments
since L₀ L = record { entry = L₀; exit = L }

-- ---- rows tried together
-- n rows from row i on were tried: their marks were taken away for the trial
module _ (bs : List ℕ) (accepted : Accepted bs) (i n : ℕ) (first second : Moments) (M : List ℕ) (lent : MarksLent (plan_of bs) first.entry second.entry M) (inside : i + n ≤ (plan_of bs).edges) (front : take (plan_of bs).edges M ≡ tried_to (plan_of bs) i) where
  abbrev P : Plan
  P = plan_of bs

  pub without_lent : MarksLent P first.entry second.entry (set_run 0 i n M)
  without_lent = record { tables = lent.tables; long_marks = rw run_length lent.long_marks }

  module _ (t : Trial) (tried : Tried P (set_run 0 i n M) first second t) where
    -- the trial was of the marks without theirs
    tried_of : take P.edges (set_run 0 i n M) ≡ set_run 0 i n (tried_to P i)
    tried_of = take_run 0 i P.edges n M inside ∙ ap (set_run 0 i n) front

    broken_by : t.broken ≡ is_broken (trial_outcome P (set_run 0 i n (tried_to P i)))
    broken_by = tried.tried.broken_is ∙ ap (λ (l : List ℕ). is_broken (trial_outcome P l)) tried_of

    are : (ns L : List ℕ) → L ≡ ns ++ drop P.edges M → length L ≡ length M → MarksAre P ns first second (since M L)
    are ns L e k = record {
      marks_are = e;
      marks_length = k;
      first_tail = first_kept bs (set_run 0 i n M) accepted first second without_lent t tried;
      second_tail = second_kept bs (set_run 0 i n M) accepted first second without_lent t tried;
    }

    pub rows_left_out : t.broken ≡ true → MarksAre P (tried_to P (i + n)) first second (since M (set_run 0 i n M))
    rows_left_out b =
        are (tried_to P (i + n)) (set_run 0 i n M)
        (sym (take-append-drop P.edges (set_run 0 i n M)) ∙ ap₂ ◌++◌ (tried_of ∙ sym (run_broken bs accepted i n (sym broken_by ∙ b))) (drop_run 0 i P.edges n M inside))
        (run_length 0 i n M)

    back : set_run 1 i n (set_run 0 i n M) ≡ M
    back = run_back i n M (λ k c. sym (get_or-take P.edges M (i + k) 0 (omega arith)) ∙ ap (λ (l : List ℕ). get_or l (i + k) 0) front ∙ tried_ahead P i (i + k) (omega arith) (omega arith))

    pub rows_stay : t.broken ≡ false → MarksAre P (tried_to P (reached i n false)) first second (since M (set_run 1 i n (set_run 0 i n M)))
    rows_stay b = are (tried_to P (reached i n false)) (set_run 1 i n (set_run 0 i n M)) (back ∙ sym (take-append-drop P.edges M) ∙ ap (λ (l : List ℕ). l ++ drop P.edges M) (front ∙ same (ℕ_discrete n 1))) (ap length back)
      where
        same : Dec (n ≡ 1) → tried_to P i ≡ tried_to P (reached i n false)
        same (yes q) = rw (eq-eqb n 1 q) (sym (run_kept bs accepted i (rw q at (sym broken_by ∙ b))))
        same (no q) = rw (ne_eqb n 1 q) refl

  -- the code's lists: the marks without theirs, and given back
  pub some_left_out : (L : List ℕ) → L ≡ set_run 0 i n M → (t : Trial) → Tried P L first second t → t.broken ≡ true → MarksAre P (tried_to P (i + n)) first second (since M L)
  some_left_out L e t tried b = rw e (rows_left_out t (rw e at tried) b)

  pub some_stay : (L N : List ℕ) → L ≡ set_run 0 i n M → N ≡ set_run 1 i n L → (t : Trial) → Tried P L first second t → t.broken ≡ false → MarksAre P (tried_to P (reached i n false)) first second (since M N)
  some_stay L N e g t tried b = rw (g ∙ ap (set_run 1 i n) e) (rows_stay t (rw e at tried) b)

-- ---- all rows
-- before the first
pub tried_none : (P : Plan) (F G M : List ℕ) → take P.edges M ≡ all_rows P → MarksAre P (tried_to P 0) (since F F) (since G G) (since M M)
unfolding tried_to
tried_none P F G M all = record {
  marks_are = sym (take-append-drop P.edges M) ∙ ap (λ (l : List ℕ). l ++ drop P.edges M) all;
  marks_length = refl;
  first_tail = record { tail = refl; as_long = refl };
  second_tail = record { tail = refl; as_long = refl };
}

module _ (P : Plan) (F₀ G₀ M₀ : List ℕ) (ms F G M : List ℕ) (are : MarksAre P ms (since F₀ F) (since G₀ G) (since M₀ M)) where
  -- what is lent stays lent
  pub still_lent : MarksLent P F₀ G₀ M₀ → MarksLent P F G M
  still_lent lent = record {
    tables = record {
      long_first = rw are.first_tail.as_long lent.tables.long_first;
      long_second = rw are.second_tail.as_long lent.tables.long_second;
    };
    long_marks = rw are.marks_length lent.long_marks;
  }

  module _ (sized : length ms ≡ P.edges) where
    pub front_is : take P.edges M ≡ ms
    front_is = ap (take P.edges) are.marks_are ∙ take_at ms (drop P.edges M₀) P.edges sized

-- the code's number of edges is small
pub edges_few : (bs : List ℕ) → Accepted bs → (n : ℕ) → n ≡ (plan_of bs).edges → n ≤ 128
edges_few bs accepted n e = omega (arith, (accepted_bounded bs accepted).edges_in)

-- ---- the whole
-- all marks were set; the code's number n is the edges
module _ (P : Plan) (F G M₀ : List ℕ) (lent : MarksLent P F G M₀) (n : ℕ) (M₁ : List ℕ) (en : n ≡ P.edges) (set_all : M₁ ≡ set_run 1 0 n M₀) (as_long : length M₁ ≡ length M₀) where
  over : M₁ ≡ all_rows P ++ drop P.edges M₀
  over = set_all ∙ run_all n M₀ (omega (arith, lent.long_marks)) ∙ ap (λ (k : ℕ). replicate k 1 ++ drop k M₀) en

  pub all_lent : MarksLent P F G M₁
  all_lent = record { tables = lent.tables; long_marks = rw as_long lent.long_marks }

  pub all_set : take P.edges M₁ ≡ all_rows P
  all_set = ap (take P.edges) over ∙ take_at (all_rows P) (drop P.edges M₀) P.edges (length-replicate P.edges 1)

  unset : drop P.edges M₁ ≡ drop P.edges M₀
  unset = ap (drop P.edges) over ∙ drop_at (all_rows P) (drop P.edges M₀) P.edges (length-replicate P.edges 1)

  -- all rows were tried, and then those that remain
  pub rows_left : (F₁ G₁ M₂ F₂ G₂ : List ℕ) (t : Trial) → MarksAre P (breaking_marks P) (since F F₁) (since G G₁) (since M₁ M₂) → Tried P M₂ (since F₁ F₂) (since G₁ G₂) t → RowsLeft P (since F F₂) (since G G₂) (since M₀ M₂) t.rows
  rows_left F₁ G₁ M₂ F₂ G₂ t are last =
      let front : take P.edges M₂ ≡ breaking_marks P = front_is P F G M₁ (breaking_marks P) F₁ G₁ M₂ are (tried_length P P.edges) in
      let r : RowsTried P (marked (breaking_marks P)) (since F₁ F₂) (since G₁ G₂) t.broken = rw front at last.tried in
      record {
        rows_are = last.rows_are ∙ ap (λ (l : List ℕ). length (marked l)) front;
        marks_are = are.marks_are ∙ ap (λ (l : List ℕ). breaking_marks P ++ l) unset;
        first_is = r.first_is ∙ ap (λ (l : List ℕ). trial_table P (breaking_marks P) ++ l) are.first_tail.tail;
        second_is = r.second_is ∙ ap (λ (l : List ℕ). trial_table P (breaking_marks P) ++ l) are.second_tail.tail;
        first_length = r.first_length ∙ are.first_tail.as_long;
        second_length = r.second_length ∙ are.second_tail.as_long;
        marks_length = are.marks_length ∙ as_long;
      }
