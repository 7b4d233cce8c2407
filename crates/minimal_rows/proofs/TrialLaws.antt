-- Trials of marks: they end with a verdict that means what the check's means, one of more rows is broken where one of fewer is, and one of all rows is the plan's own run.
use mathlib.Core.Path.{◌≡◌, refl, sym, ◌∙◌}
use mathlib.Core.Bool.{true, false, true≢false}
use mathlib.Core.Logic.{◌⊎◌, inl, inr}
use mathlib.Core.List.{List, [], append-nil}
use Prim.Native.Nat.{ℕ, ◌<◌}
use native.Mathlib.Nat.{le_refl}
use lib.ListN.{length, get_or, length-replicate}
use Rattle.plan.specs.Plan.{Plan, cells}
use Rattle.plan.specs.Layout.{plan_of}
use Rattle.plan.specs.Refusal.{Accepted}
use Rattle.plan.proofs.Ranges.{WellFormed, accepted_well_formed}
use Rattle.plan.proofs.Fewer.{FewerRows}
use Rattle.plan_rows.specs.Rows.{marked}
use Rattle.plan_rows.proofs.SomeRows.{some_well_formed, some_fewer, some_of_all, all_rows_lem}
use Rattle.plan_rows.proofs.Marked.{marked_in, marked_has, marked_rows_in, all_marked}
use Rattle.rules.specs.declared.Line.{Line}
use Rattle.rules.specs.Derivations.{Derivation, SelfWait}
use Rattle.rules.proofs.Fewer.{fewer_derivation, fewer_self_wait}
use Rattle.rules_panel.specs.Dramas.{AnyDuration}
use Rattle.rules_panel.specs.Strategies.{Panel}
use Rattle.rounds_making.specs.Rounds.{zeros}
use Rattle.rounds_making.specs.Outcomes.{Outcome, kept, broken, spent, refused, run_outcome, run_table}
use Rattle.rounds_making.proofs.TableLengths.{run_length}
use Rattle.rounds.specs.Meaning.{IsKept, IsBroken, IsSpent, IsRefused, enough_rounds}
use Rattle.rounds.proofs.Meanings.{RunSays, run_says, means}
use Rattle.rounds.proofs.SameRuns.{same_outcome, same_run}
use Rattle.minimal_rows.specs.Trials.{remaining, trial_outcome, trial_table, is_kept, is_broken, all_rows}
use Rattle.minimal_rows.specs.AfterBreakingRows.{TrialsMean}

-- ---- an outcome by its test
pub broken_is : (o : Outcome) → is_broken o ≡ true → IsBroken o
broken_is (kept r) e = absurd (true≢false (sym e))
broken_is (broken r) e = tt
broken_is (spent n) e = absurd (true≢false (sym e))
broken_is (refused n) e = absurd (true≢false (sym e))

pub is_broken_lem : (o : Outcome) → IsBroken o → is_broken o ≡ true
is_broken_lem (kept r) b = absurd b
is_broken_lem (broken r) b = refl
is_broken_lem (spent n) b = absurd b
is_broken_lem (refused n) b = absurd b

-- a verdict that is not broken is kept
pub kept_not_broken : (o : Outcome) → IsBroken o ⊎ IsKept o → is_broken o ≡ false → IsKept o
kept_not_broken o (inl b) e = absurd (true≢false (sym (is_broken_lem o b) ∙ e))
kept_not_broken o (inr k) e = k

is_kept_lem : (o : Outcome) → IsKept o → is_kept o ≡ true
is_kept_lem (kept r) k = refl
is_kept_lem (broken r) k = absurd k
is_kept_lem (spent n) k = absurd k
is_kept_lem (refused n) k = absurd k

kept_one : (o : Outcome) → is_broken o ≡ true → is_kept o ≡ false
kept_one (kept r) e = absurd (true≢false (sym e))
kept_one (broken r) e = refl
kept_one (spent n) e = refl
kept_one (refused n) e = refl

kept_not_refused : (o : Outcome) → IsKept o → IsRefused o → ⊥
kept_not_refused (kept r) k u = u
kept_not_refused (broken r) k u = u
kept_not_refused (spent n) k u = u
kept_not_refused (refused n) k u = k

verdict_not_spent : (o : Outcome) → IsBroken o ⊎ IsKept o → IsSpent o → ⊥
verdict_not_spent (kept r) v s = s
verdict_not_spent (broken r) v s = s
verdict_not_spent (spent n) (inl b) s = b
verdict_not_spent (spent n) (inr k) s = k
verdict_not_spent (refused n) v s = s

module _ (bs : List ℕ) (accepted : Accepted bs) where
  abbrev P : Plan
  P = plan_of bs

  wf : WellFormed P
  wf = accepted_well_formed bs accepted

  -- ---- one trial
  module _ (ms : List ℕ) (sized : length ms ≡ P.edges) where
    pub remaining_well_formed : WellFormed (remaining P ms)
    remaining_well_formed = some_well_formed wf (marked ms) (marked_rows_in P ms sized)

    trial_says : RunSays (remaining P ms) remaining_well_formed (enough_rounds P) (trial_outcome P ms) (trial_table P ms)
    trial_says = run_says (remaining P ms) remaining_well_formed (enough_rounds P)

    -- it has enough rounds
    pub trial_verdict : IsBroken (trial_outcome P ms) ⊎ IsKept (trial_outcome P ms)
    trial_verdict = trial_says.decided (le_refl (enough_rounds P))

    waits_broken : SelfWait (remaining P ms) → is_broken (trial_outcome P ms) ≡ true
    waits_broken w = is_broken_lem (trial_outcome P ms) (go trial_verdict)
      where
        go : IsBroken (trial_outcome P ms) ⊎ IsKept (trial_outcome P ms) → IsBroken (trial_outcome P ms)
        go (inl b) = b
        go (inr k) = absurd ((trial_says.settled k).no_wait w)

    pub trial_length : length (trial_table P ms) ≡ cells P
    trial_length = run_length (remaining P ms) remaining_well_formed (zeros P) (length-replicate (cells P) 0) (enough_rounds P)

    pub trial_means : TrialsMean bs ms
    trial_means = record {
      not_spent = verdict_not_spent (trial_outcome P ms) trial_verdict;
      means = rw (append-nil (trial_table P ms)) at (means (remaining P ms) remaining_well_formed (enough_rounds P) (trial_outcome P ms) (trial_table P ms) trial_says trial_length [] []);
    }

    -- a panel keeps what a trial keeps
    pub kept_panel : IsKept (trial_outcome P ms) → Panel 1 (remaining P ms) AnyDuration
    kept_panel k = (trial_means.means.kept_exactly (kept_not_refused (trial_outcome P ms) k) trial_means.not_spent).0 k

  -- ---- a trial of more rows
  module _ (ms ns : List ℕ) (em : length ms ≡ P.edges) (en : length ns ≡ P.edges) (more : (i : ℕ) → i < P.edges → get_or ms i 0 ≡ 1 → get_or ns i 0 ≡ 1) where
    rows_among : FewerRows (remaining P ms) (remaining P ns)
    rows_among = some_fewer P (marked ms) (marked ns) (λ i h. let m = marked_in ms i h in marked_has ns (get_or (marked ms) i 0) (rw (en, ← em) m.0) (more (get_or (marked ms) i 0) (rw (← em) m.0) m.1))

    -- leaving rows out only takes derivations away
    pub more_derived : (ks : List Line) → Derivation (remaining P ms) ks → Derivation (remaining P ns) ks
    more_derived = fewer_derivation rows_among

    pub more_broken : is_broken (trial_outcome P ms) ≡ true → is_broken (trial_outcome P ns) ≡ true
    more_broken b = waits_broken ns en (fewer_self_wait rows_among ((trial_says ms em).waits (broken_is (trial_outcome P ms) b)))

  -- ---- a trial of all rows
  all_sized : length (all_rows P) ≡ P.edges
  all_sized = length-replicate P.edges 1

  all_fewer : FewerRows (remaining P (all_rows P)) P
  all_fewer = some_of_all P (marked (all_rows P)) (marked_rows_in P (all_rows P) all_sized)

  all_there : FewerRows P (remaining P (all_rows P))
  all_there = all_rows_lem P (marked (all_rows P)) (all_marked P.edges)

  pub whole_outcome : trial_outcome P (all_rows P) ≡ run_outcome P (zeros P) (enough_rounds P)
  whole_outcome = same_outcome all_fewer all_there (remaining_well_formed (all_rows P) all_sized) wf (zeros P) (length-replicate (cells P) 0) (enough_rounds P)

  pub whole_table : trial_table P (all_rows P) ≡ run_table P (zeros P) (enough_rounds P)
  whole_table = same_run all_fewer all_there (remaining_well_formed (all_rows P) all_sized) wf (zeros P) (length-replicate (cells P) 0) (enough_rounds P)

  -- the plan is kept exactly where a trial of all rows is not broken
  pub whole_kept : is_broken (trial_outcome P (all_rows P)) ≡ false → is_kept (trial_outcome P (all_rows P)) ≡ true
  whole_kept e = is_kept_lem (trial_outcome P (all_rows P)) (kept_not_broken (trial_outcome P (all_rows P)) (trial_verdict (all_rows P) all_sized) e)

  pub whole_broken : is_broken (trial_outcome P (all_rows P)) ≡ true → is_kept (trial_outcome P (all_rows P)) ≡ false
  whole_broken e = kept_one (trial_outcome P (all_rows P)) e
