-- A refusal leaves everything as it was; else the check answers, and a broken plan is listed.
use mathlib.Core.Path.{refl, sym}
use native.Mathlib.Omega.{arith}
use Rattle.std.proofs.lemmas.Result.{err_from_is_err_and}
use Rattle.plan.specs.Numbers.{number_of}
use Rattle.plan.proofs.Ranges.{sizes_few}
use Rattle.rounds_making.specs.Outcomes.{refused, outcome_of}
use Rattle.rounds.proofs.CheckCases.{number_some}
use Rattle.listing.proofs.AnswerLaws.{check_follows, list_refused, list_short, list_answered, answered_refused}
use Rattle.listing.proofs.answering.list.Goals as goal

pub returns-in_err-refusal : goal.returns-in_err-refusal
returns-in_err-refusal c =
    let p = err_from_is_err_and c.from_residual.result c.from_residual.ensures.1 in
    rw (p.1, p.2) (list_refused c.args.plan.now c.args.first.now c.args.second.now c.args.limit c.args.index.now c.args.out.now _ c.in_err-refusal.ensures (number_some c.in_err-refusal.field-0.0))

pub cells-requires : goal.cells-requires
cells-requires c = sizes_few c.args.plan.now (sym c.in_ok-refusal.ensures)

pub returns-then-index-cells : goal.returns-then-index-cells
returns-then-index-cells c = list_short c.args.plan.now c.args.first.now c.args.second.now c.args.limit c.args.index.now c.args.out.now (sym c.in_ok-refusal.ensures) (omega (arith, c.cells.ensures))

pub returns-in_err-answer : goal.returns-in_err-answer
returns-in_err-answer c =
    let e = c.in_err-answer.field-0.0 in
    let q = c.from_residual-in_err-answer in
    let p = err_from_is_err_and q.result q.ensures.1 in
    rw (p.1, p.2) (list_answered c.args.plan.now c.args.first.now c.args.second.now c.args.limit c.args.index.now c.args.out.now (sym c.in_ok-refusal.ensures) (omega (arith, c.cells.ensures, c.if-index-cells.false)) (refused (number_of e)) _ _ _ _ _ _ _ _ c.in_err-answer.ensures refl refl (answered_refused c.args.plan.now c.args.index.now c.args.out.now _ _ refl))

pub list_checked-requires : goal.list_checked-requires
list_checked-requires c = let k = c.in_ok-answer.ensures in
    check_follows c.args.plan.now c.args.first.now c.args.second.now c.args.limit (sym c.in_ok-refusal.ensures) c.args.index.now (omega (arith, c.cells.ensures, c.if-index-cells.false)) _ _ k.first_is k.second_is (outcome_of c.in_ok-answer.answer) k.outcome_is

pub returns : goal.returns
returns c = let l = c.list_checked.ensures in
    list_answered c.args.plan.now c.args.first.now c.args.second.now c.args.limit c.args.index.now c.args.out.now (sym c.in_ok-refusal.ensures) (omega (arith, c.cells.ensures, c.if-index-cells.false)) (outcome_of c.in_ok-answer.answer) _ _ _ _ _ _ _ _ c.in_ok-answer.ensures l.first_value l.second_value l.answered
