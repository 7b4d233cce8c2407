-- What the call answers, and what the lent tables and marks then hold (21).
use Rattle.std.specs.Prelude.{Bool, cond, not, ◌||◌, List, ◌++◌, ℕ, ltb, eqb, length, drop, Result, Ok, Err}
use Rattle.plan.specs.Plan.{Plan, cells}
use Rattle.plan.specs.Layout.{plan_of}
use Rattle.plan.specs.Refusal.{refusal}
use Rattle.plan.specs.Numbers.{number_of}
use Rattle.plan.specs.declared.refusal.Refusal.{Refusal}
use Rattle.plan_rows.specs.Rows.{marked}
use Rattle.rounds.specs.CheckOutcomes.{is_too_short}
use Rattle.minimal_rows.specs.Trials.{trial_outcome, trial_table, is_kept, all_rows, breaking_marks}

-- 21.5: the number of rows that remain, or the number of a refusal
pub data RowsOutcome : Type 0 where
  rows : ℕ → RowsOutcome
  refused : ℕ → RowsOutcome

-- 21.5: the outcome that the code's answer stands for
abbrev pub outcome_of : Result ℕ Refusal → RowsOutcome
outcome_of (Ok n) = rows n
outcome_of (Err refusal) = refused (number_of refusal)

-- 21.5: a lent table is shorter than the cells, or the marks are fewer than the edges
abbrev pub rows_too_short : Plan → List ℕ → List ℕ → List ℕ → Bool
rows_too_short P F G R = is_too_short P F G || ltb (length R) P.edges

-- 21.5: the number of the first refusal that applies, 0 where none does: of the plan, then 6, then 16 for a plan that is kept
unfoldable pub rows_refusal : List ℕ → List ℕ → List ℕ → List ℕ → ℕ
rows_refusal bs F G R =
    let P = plan_of bs in
    cond (not (eqb (refusal bs) 0)) (refusal bs)
    (cond (rows_too_short P F G R) 6
    (cond (is_kept (trial_outcome P (all_rows P))) 16 0))

-- 21.5: of a plan with two lent tables F and G and lent marks R
unfoldable pub rows_outcome : List ℕ → List ℕ → List ℕ → List ℕ → RowsOutcome
rows_outcome bs F G R =
    let n = rows_refusal bs F G R in
    cond (eqb n 0) (rows (length (marked (breaking_marks (plan_of bs))))) (refused n)

-- 21.6: the marks then: untouched where refused, else those of the procedure, and later ones as they were
unfoldable pub rows_marks : List ℕ → List ℕ → List ℕ → List ℕ → List ℕ
rows_marks bs F G R =
    let P = plan_of bs in
    cond (eqb (rows_refusal bs F G R) 0) (breaking_marks P ++ drop P.edges R) R

-- 21.6: what a lent table L then holds: the table of a trial of the remaining rows, under 16 of all rows, and else it is untouched
unfoldable pub rows_table : List ℕ → List ℕ → List ℕ → List ℕ → List ℕ → List ℕ
rows_table bs F G R L =
    let P = plan_of bs in
    let n = rows_refusal bs F G R in
    cond (eqb n 0) (trial_table P (breaking_marks P) ++ drop (cells P) L)
    (cond (eqb n 16) (trial_table P (all_rows P) ++ drop (cells P) L) L)
