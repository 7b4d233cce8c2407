-- The check of an accepted plan is the check of the same plan without labels of points: no rule sees them.
use mathlib.Core.Path.{◌≡◌, sym, ap, ap₂, ◌∙◌}
use mathlib.Core.Bool.{true}
use mathlib.Core.List.{List, ◌++◌}
use Prim.Native.Nat.{ℕ, ◌≤◌}
use native.Mathlib.Decide.{dec_le}
use native.Mathlib.Omega.{arith}
use lib.ListN.{length, drop, replicate, length-replicate}
use Rattle.plan.specs.Moments.{Moments}
use Rattle.plan.specs.Plan.{Plan, cells}
use Rattle.plan.specs.Layout.{plan_of}
use Rattle.plan.specs.Forms.{without_labels}
use Rattle.plan.specs.Refusal.{Accepted}
use Rattle.plan.proofs.Ranges.{accepted_well_formed}
use Rattle.plan.proofs.Fewer.{FewerRows}
use Rattle.plan.proofs.SameRows.{same_turned, same_fewer}
use Rattle.plan.proofs.Forms.{without_same, without_accepted}
use Rattle.rules.proofs.Fewer.{fewer_cells}
use Rattle.rounds_making.specs.Rounds.{zeros}
use Rattle.rounds_making.specs.Outcomes.{Outcome, run_outcome, run_table}
use Rattle.rounds.specs.CheckOutcomes.{is_too_short, check_outcome, check_table}
use Rattle.rounds.specs.AfterCheck.{AsUnlabelled}
use Rattle.rounds.proofs.SameRuns.{same_outcome, same_run}
use Rattle.rounds.proofs.CheckCases.{check_runs, check_leaves, short_outcome, short_table, short_first, short_second}

module _ (bs : List ℕ) (accepted : Accepted bs) where
  abbrev P : Plan
  P = plan_of bs

  abbrev Q : Plan
  Q = plan_of (without_labels bs)

  without_fewer : FewerRows Q P
  without_fewer = same_fewer (without_same bs accepted)

  fewer_without : FewerRows P Q
  fewer_without = same_fewer (same_turned (without_same bs accepted))

  same_cells : cells Q ≡ cells P
  same_cells = fewer_cells without_fewer

  outcome_same : (limit : ℕ) → run_outcome Q (zeros Q) limit ≡ run_outcome P (zeros P) limit
  outcome_same limit = ap (λ (n : ℕ). run_outcome Q (replicate n 0) limit) same_cells ∙ same_outcome without_fewer fewer_without (accepted_well_formed (without_labels bs) (without_accepted bs accepted)) (accepted_well_formed bs accepted) (zeros P) (length-replicate (cells P) 0) limit

  run_same : (limit : ℕ) → run_table Q (zeros Q) limit ≡ run_table P (zeros P) limit
  run_same limit = ap (λ (n : ℕ). run_table Q (replicate n 0) limit) same_cells ∙ same_run without_fewer fewer_without (accepted_well_formed (without_labels bs) (without_accepted bs accepted)) (accepted_well_formed bs accepted) (zeros P) (length-replicate (cells P) 0) limit

  accepted_without : Accepted (without_labels bs)
  accepted_without = without_accepted bs accepted

  -- case by case: the rounds run, or a lent table is too short
  module _ (F G : List ℕ) (limit : ℕ) where
    pub check_outcome_same : check_outcome (without_labels bs) F G limit ≡ check_outcome bs F G limit
    check_outcome_same = go (dec_le (cells P) (length F)) (dec_le (cells P) (length G))
      where
        short : is_too_short P F G ≡ true → check_outcome (without_labels bs) F G limit ≡ check_outcome bs F G limit
        short h = sym (short_outcome (without_labels bs) F G limit accepted_without (rw same_cells h)) ∙ short_outcome bs F G limit accepted h

        go : Dec (cells P ≤ length F) → Dec (cells P ≤ length G) → check_outcome (without_labels bs) F G limit ≡ check_outcome bs F G limit
        go (yes f) (yes g) = check_runs (without_labels bs) F G limit accepted_without (omega (arith, same_cells)) (omega (arith, same_cells)) ∙ outcome_same limit ∙ sym (check_runs bs F G limit accepted f g)
        go (yes f) (no g) = short (short_second P F G f (omega arith))
        go (no f) g = short (short_first P F G (omega arith))

    pub check_table_same : (L : List ℕ) → check_table (without_labels bs) F G limit L ≡ check_table bs F G limit L
    check_table_same L = go (dec_le (cells P) (length F)) (dec_le (cells P) (length G))
      where
        short : is_too_short P F G ≡ true → check_table (without_labels bs) F G limit L ≡ check_table bs F G limit L
        short h = sym (short_table (without_labels bs) F G limit accepted_without (rw same_cells h) L) ∙ short_table bs F G limit accepted h L

        go : Dec (cells P ≤ length F) → Dec (cells P ≤ length G) → check_table (without_labels bs) F G limit L ≡ check_table bs F G limit L
        go (yes f) (yes g) = check_leaves (without_labels bs) F G limit accepted_without (omega (arith, same_cells)) (omega (arith, same_cells)) L ∙ ap₂ (λ (l : List ℕ) (n : ℕ). l ++ drop n L) (run_same limit) same_cells ∙ sym (check_leaves bs F G limit accepted f g L)
        go (yes f) (no g) = short (short_second P F G f (omega arith))
        go (no f) g = short (short_first P F G (omega arith))

  pub unlabelled_check : (limit : ℕ) (first second : Moments) (o : Outcome) → o ≡ check_outcome bs first.entry second.entry limit → first.exit ≡ check_table bs first.entry second.entry limit first.entry → second.exit ≡ check_table bs first.entry second.entry limit second.entry → AsUnlabelled bs limit first second o
  unlabelled_check limit first second o e f g = record {
    outcome_is = e ∙ sym (check_outcome_same first.entry second.entry limit);
    first_is = f ∙ sym (check_table_same first.entry second.entry limit first.entry);
    second_is = g ∙ sym (check_table_same first.entry second.entry limit second.entry);
  }
