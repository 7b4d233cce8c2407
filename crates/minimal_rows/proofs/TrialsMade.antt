-- The rounds from zeros of the bytes of some rows, with the whole plan's horizon, are a trial of these rows.
use mathlib.Core.Path.{◌≡◌, sym, ap, ◌∙◌}
use mathlib.Core.Bool.{Bool}
use mathlib.Core.List.{List, ◌++◌}
use Prim.Native.Nat.{ℕ, ◌≤◌}
use native.Mathlib.Omega.{arith}
use lib.ListN.{length, take, drop, replicate, length-replicate}
use lib.Seq.{length-take-le, take_at, drop_at}
use Rattle.plan.specs.Moments.{Moments}
use Rattle.plan.specs.Plan.{Plan, cells}
use Rattle.plan.specs.Layout.{plan_of, length_for}
use Rattle.plan.specs.Horizons.{plan_with}
use Rattle.plan.specs.Refusal.{Accepted}
use Rattle.plan.proofs.Ranges.{WellFormed, accepted_well_formed, accepted_bounded}
use Rattle.plan.proofs.Horizons.{with_well_formed}
use Rattle.plan.proofs.Fewer.{FewerRows}
use Rattle.plan_rows.specs.Rows.{with_rows, marked}
use Rattle.plan_rows.specs.RowBytes.{RowsIn, rows_bytes}
use Rattle.plan_rows.proofs.SomeRows.{some_well_formed}
use Rattle.plan_rows.proofs.Marked.{marked_rows_in}
use Rattle.plan_rows.proofs.RowPlans.{rows_accepted, rows_horizon, rows_fewer, fewer_rows}
use Rattle.rules.proofs.Fewer.{fewer_cells}
use Rattle.rounds_making.specs.Rounds.{zeros}
use Rattle.rounds_making.specs.Outcomes.{Outcome, run_outcome, run_table}
use Rattle.rounds.specs.Meaning.{enough_rounds}
use Rattle.rounds.specs.FromZeros.{ZerosLent, RanFromZeros}
use Rattle.rounds.proofs.SameRuns.{same_outcome, same_run}
use Rattle.minimal_rows.specs.declared.trials.Trial.{Trial}
use Rattle.minimal_rows.specs.Trials.{trial_table, is_broken}
use Rattle.minimal_rows.specs.Lent.{Trying, TablesLent, MarksLent}
use Rattle.minimal_rows.specs.Reducing.{RowsTried, Tried, TailKept}
use Rattle.minimal_rows.proofs.TrialLaws.{trial_length}

module _ (bs rows : List ℕ) (h limit : ℕ) (F G : List ℕ) (trying : Trying bs h limit) (lent : TablesLent (plan_of bs) F G) (within : RowsIn (plan_of bs) rows) where
  abbrev P : Plan
  P = plan_of bs

  -- the plan of the rows' bytes
  abbrev Q : Plan
  Q = plan_with (rows_bytes bs rows) P.horizon

  same_cells : cells Q ≡ cells P
  same_cells = fewer_cells (rows_fewer bs rows)

  horizon_far : (plan_of (rows_bytes bs rows)).horizon ≤ P.horizon
  horizon_far = rows_horizon bs rows trying.accepted within

  pub rows_lent : ZerosLent (rows_bytes bs rows) h F G
  rows_lent = record {
    accepted = rows_accepted bs rows trying.accepted within;
    horizon_far = rw trying.horizon_is horizon_far;
    horizon_near = rw trying.horizon_is (accepted_bounded bs trying.accepted).horizon_in;
    long_first = rw same_cells lent.long_first;
    long_second = rw same_cells lent.long_second;
  }

  module _ (first second : Moments) (o : Outcome) where
    same_tried : RanFromZeros Q (enough_rounds P) first second o → RowsTried P rows first second (is_broken o)
    same_tried r = record {
      broken_is = ap is_broken (r.outcome_is ∙ ap (λ (n : ℕ). run_outcome Q (replicate n 0) (enough_rounds P)) same_cells ∙ same_outcome f g wq wp (zeros P) sized (enough_rounds P));
      first_is = r.first_is ∙ left first.entry;
      second_is = r.second_is ∙ left second.entry;
      first_length = r.first_length;
      second_length = r.second_length;
    }
      where
        f : FewerRows Q (with_rows P rows)
        f = rows_fewer bs rows

        g : FewerRows (with_rows P rows) Q
        g = fewer_rows bs rows

        wq : WellFormed Q
        wq = with_well_formed (rows_bytes bs rows) (rows_accepted bs rows trying.accepted within) P.horizon horizon_far

        wp : WellFormed (with_rows P rows)
        wp = some_well_formed (accepted_well_formed bs trying.accepted) rows within

        sized : length (zeros P) ≡ cells P
        sized = length-replicate (cells P) 0

        left : (L : List ℕ) → run_table Q (zeros Q) (enough_rounds P) ++ drop (cells Q) L ≡ run_table (with_rows P rows) (zeros P) (enough_rounds P) ++ drop (cells P) L
        left L = ap (λ (n : ℕ). run_table Q (replicate n 0) (enough_rounds P) ++ drop n L) same_cells ∙ ap (λ (l : List ℕ). l ++ drop (cells P) L) (same_run f g wq wp (zeros P) sized (enough_rounds P))

    rows_tried : RanFromZeros (plan_with (rows_bytes bs rows) h) limit first second o → RowsTried P rows first second (is_broken o)
    rows_tried r = same_tried (rw (trying.horizon_is, trying.limit_is) at r)

  -- a buffer is long enough
  pub bytes_fit : length_for (with_rows P rows) ≤ 800
  unfolding length_for
  bytes_fit = let b = accepted_bounded bs trying.accepted in omega (arith, within.few, b.edges_in, b.links_in, b.propositions_in)

  -- the bytes were written into a buffer; the code's number e is how many
  module _ (B B₀ : List ℕ) (e : ℕ) (count : e ≡ length (rows_bytes bs rows)) (written : B ≡ rows_bytes bs rows ++ drop e B₀) where
    part_is : take e B ≡ rows_bytes bs rows
    part_is = ap (take e) written ∙ take_at (rows_bytes bs rows) (drop e B₀) e (sym count)

    pub part_lent : ZerosLent (take e B) h F G
    part_lent = rw part_is rows_lent

    pub part_tried : (first second : Moments) (o : Outcome) (b : Bool) → b ≡ is_broken o → RanFromZeros (plan_with (take e B) h) limit first second o → RowsTried P rows first second b
    part_tried first second o b q r = rw q (rows_tried first second o (rw part_is at r))

-- ---- a trial of marks
module _ (bs marks : List ℕ) (accepted : Accepted bs) where
  -- the code's numbers n and e are the edges and the rows with mark 1, which were listed
  module _ (N N₀ : List ℕ) (n e : ℕ) (en : n ≡ (plan_of bs).edges) (long : (plan_of bs).edges ≤ length marks) (count : e ≡ length (marked (take n marks))) (listed : N ≡ marked (take n marks) ++ drop e N₀) where
    rows_are : take e N ≡ marked (take (plan_of bs).edges marks)
    rows_are = ap (take e) listed ∙ take_at (marked (take n marks)) (drop e N₀) e (sym count) ∙ ap (λ (m : ℕ). marked (take m marks)) en

    pub listed_in : RowsIn (plan_of bs) (take e N)
    listed_in = rw rows_are (marked_rows_in (plan_of bs) (take (plan_of bs).edges marks) (length-take-le (plan_of bs).edges marks long))

-- ---- what a trial leaves
module _ (bs marks : List ℕ) (accepted : Accepted bs) (first second : Moments) (lent : MarksLent (plan_of bs) first.entry second.entry marks) where
  sized : length (take (plan_of bs).edges marks) ≡ (plan_of bs).edges
  sized = length-take-le (plan_of bs).edges marks lent.long_marks

  whole : length (trial_table (plan_of bs) (take (plan_of bs).edges marks)) ≡ cells (plan_of bs)
  whole = trial_length bs accepted (take (plan_of bs).edges marks) sized

  module _ (t : Trial) (tried : Tried (plan_of bs) marks first second t) where
    pub first_kept : TailKept (plan_of bs) first
    first_kept = record { tail = ap (drop (cells (plan_of bs))) tried.tried.first_is ∙ drop_at (trial_table (plan_of bs) (take (plan_of bs).edges marks)) (drop (cells (plan_of bs)) first.entry) (cells (plan_of bs)) whole; as_long = tried.tried.first_length }

    pub second_kept : TailKept (plan_of bs) second
    second_kept = record { tail = ap (drop (cells (plan_of bs))) tried.tried.second_is ∙ drop_at (trial_table (plan_of bs) (take (plan_of bs).edges marks)) (drop (cells (plan_of bs)) second.entry) (cells (plan_of bs)) whole; as_long = tried.tried.second_length }
