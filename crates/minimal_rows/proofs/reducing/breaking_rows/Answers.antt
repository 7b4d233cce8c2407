-- A refusal leaves all memory as it was; else the plan is run and reduced.
use mathlib.Core.Path.{◌≡◌, refl, sym}
use mathlib.Core.Bool.{true}
use native.Mathlib.Omega.{arith}
use Rattle.std.proofs.lemmas.Result.{err_from_is_err_and}
use Rattle.plan.specs.Layout.{plan_of}
use Rattle.plan.proofs.Ranges.{sizes_few}
use Rattle.rounds.proofs.CheckCases.{number_some}
use Rattle.minimal_rows.specs.BreakingRows.{rows_too_short}
use Rattle.minimal_rows.proofs.AnswerLaws.{short_first, short_second, short_marks, plan_refused, short_refused}
use Rattle.minimal_rows.proofs.reducing.breaking_rows.Goals as goal
use Rattle.minimal_rows.proofs.reducing.breaking_rows.Goals.{Joined-then-first-end, then-first-end-via-then-first-end, then-first-end-via-else-first-end+then-second-end, then-first-end-via-else-first-end+else-second-end+then-marks-edges}

pub returns-in_err-refusal : goal.returns-in_err-refusal
returns-in_err-refusal c =
    let p = err_from_is_err_and c.from_residual.result c.from_residual.ensures.1 in
    rw (p.1, p.2) (plan_refused _ _ _ _ _ c.in_err-refusal.ensures (number_some c.in_err-refusal.field-0.0) refl refl refl)

pub cells-end-requires : goal.cells-end-requires
cells-end-requires c = sizes_few _ (sym c.in_ok-refusal.ensures)

-- a table or the marks are too short
short : (c : Joined-then-first-end) → rows_too_short (plan_of c.args.plan.now) c.args.first.now c.args.second.now c.args.marks.now ≡ true
short c = let P = plan_of c.args.plan.now in let F = c.args.first.now in let G = c.args.second.now in let M = c.args.marks.now in
    elim c.then-first-end.branch [
      | then-first-end-via-then-first-end w ↦ short_first P F G M (omega arith)
      | then-first-end-via-else-first-end+then-second-end w ↦ short_second P F G M (omega arith) (omega arith)
      | then-first-end-via-else-first-end+else-second-end+then-marks-edges w ↦ short_marks P F G M (omega arith) (omega arith) (omega arith)
    ]

pub returns-then-first-end : goal.returns-then-first-end
returns-then-first-end c = short_refused c.args.plan.now _ _ _ (sym c.in_ok-refusal.ensures) (short c) refl refl refl
