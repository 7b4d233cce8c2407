-- The page of a plan and a table, what the call answers, and what the output then holds (18).
use Rattle.std.specs.Prelude.{Bool, cond, not, List, [], ◌++◌, ℕ, Result, Ok, Err, ltb, leb, eqb, length, get_or, drop}
use Rattle.plan.specs.Plan.{Plan, cells}
use Rattle.plan.specs.Layout.{plan_of}
use Rattle.plan.specs.Numbers.{number_of}
use Rattle.plan.specs.Refusal.{every, refusal}
use Rattle.plan.specs.declared.refusal.Refusal.{Refusal}
use Rattle.rules.specs.Lines.{line_at}
use Rattle.text.specs.Joined.{joined}
use Rattle.page.specs.Columns.{columns}

-- 18.1: cell c is above 0
unfoldable pub above : List ℕ → ℕ → Bool
above T c = ltb 0 (get_or T c 0)

-- 18.1: the line of cell c where it is above 0, else nothing
unfoldable pub cell_text : Plan → List ℕ → ℕ → List ℕ
cell_text P T c = cond (above T c) (columns (line_at P T c)) []

-- 18.1: the page: the lines in the order of the cells
unfoldable pub page_of : Plan → List ℕ → List ℕ
page_of P T = joined (cell_text P T) (cells P)

-- 18.7: the largest number of six columns
abbrev pub most_printed : ℕ
most_printed = 999999

-- 18.7: the wait of cell c is not above it
unfoldable pub wait_fits : List ℕ → ℕ → Bool
wait_fits T c = leb (get_or T c 0) most_printed

-- 18.7: a page with its length, or the number of a refusal
pub data PageOutcome : Type 0 where
  printed : ℕ → PageOutcome
  refused : ℕ → PageOutcome

-- 18.7: the outcome that the code's answer stands for
abbrev pub outcome_of : Result ℕ Refusal → PageOutcome
outcome_of (Ok n) = printed n
outcome_of (Err refusal) = refused (number_of refusal)

-- 18.7: of the plan, then 6, then 12, then 13
unfoldable pub page_outcome : List ℕ → List ℕ → List ℕ → PageOutcome
page_outcome bs T out =
    let P = plan_of bs in
    cond (not (eqb (refusal bs) 0)) (refused (refusal bs))
    (cond (ltb (length T) (cells P)) (refused 6)
    (cond (not (every (wait_fits T) (cells P))) (refused 12)
    (cond (ltb (length out) (length (page_of P T))) (refused 13) (printed (length (page_of P T))))))

-- 18.8: the output with a page put at its start, where there is one
abbrev pub output_with : List ℕ → List ℕ → PageOutcome → List ℕ
output_with text out (printed n) = text ++ drop n out
output_with text out (refused n) = out

-- 18.8: the output afterwards
unfoldable pub page_output : List ℕ → List ℕ → List ℕ → List ℕ
page_output bs T out = output_with (page_of (plan_of bs) T) out (page_outcome bs T out)
