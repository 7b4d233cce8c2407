-- All that the call promises (21).
use Rattle.std.specs.Prelude.{◌≡◌, List, ℕ, ◌<◌, length, get_or, take, set}
use Rattle.plan.specs.Moments.{Moments}
use Rattle.plan.specs.Layout.{plan_of}
use Rattle.plan.specs.Refusal.{Accepted}
use Rattle.rules_panel.specs.Dramas.{AnyDuration}
use Rattle.rules_panel.specs.Strategies.{Panel, NoPanel}
use Rattle.rounds.specs.Meaning.{IsKept, IsBroken, IsSpent, enough_rounds, Meaning}
use Rattle.minimal_rows.specs.Trials.{remaining, trial_outcome, trial_table, no_rows}
use Rattle.minimal_rows.specs.BreakingRows.{RowsOutcome, rows, refused, rows_outcome, rows_marks, rows_table}

abbrev pub IsRows : RowsOutcome → Type 0
IsRows (rows n) = Unit {0}
IsRows (refused n) = ⊥

-- 21.7: whatever rows of the plan are marked, their trial ends with a verdict, and that means what the check's means
pub record TrialsMean (bs ms : List ℕ) : Type 0 where
  pub not_spent : IsSpent (trial_outcome (plan_of bs) ms) → ⊥
  pub means : Meaning (remaining (plan_of bs) ms) (enough_rounds (plan_of bs)) (trial_outcome (plan_of bs) ms) (trial_table (plan_of bs) ms) (trial_table (plan_of bs) ms)

-- 21.8: the rows with mark 1 are broken, and with any one of them removed the plan is kept: no panel keeps them all, and one keeps all but that one
pub record Minimal (bs ms : List ℕ) : Type 0 where
  pub still_broken : IsBroken (trial_outcome (plan_of bs) ms)
  pub each_needed : (i : ℕ) → i < (plan_of bs).edges → get_or ms i 0 ≡ 1 → IsKept (trial_outcome (plan_of bs) (set ms i 0))
  pub no_panel : NoPanel (remaining (plan_of bs) ms)
  pub panel_without : (i : ℕ) → i < (plan_of bs).edges → get_or ms i 0 ≡ 1 → Panel 1 (remaining (plan_of bs) (set ms i 0)) AnyDuration

-- the call on a plan with two lent tables and lent marks answered o
pub record AfterBreakingRows (plan : List ℕ) (first second marks : Moments) (o : RowsOutcome) : Type 0 where
  pub outcome_is : o ≡ rows_outcome plan first.entry second.entry marks.entry
  pub first_is : first.exit ≡ rows_table plan first.entry second.entry marks.entry first.entry
  pub second_is : second.exit ≡ rows_table plan first.entry second.entry marks.entry second.entry
  pub marks_are : marks.exit ≡ rows_marks plan first.entry second.entry marks.entry
  pub minimal : IsRows o → Minimal plan (take (plan_of plan).edges marks.exit)
  pub links_alone : IsRows o → IsBroken (trial_outcome (plan_of plan) (no_rows (plan_of plan))) → o ≡ rows 0
  pub trials_mean : Accepted plan → (ms : List ℕ) → length ms ≡ (plan_of plan).edges → TrialsMean plan ms
