-- A refusal leaves the tables as they were; else the check answers.
use mathlib.Core.Path.{sym}
use Rattle.std.proofs.lemmas.Result.{err_from_is_err_and}
use Rattle.rounds.proofs.CheckCases.{number_some}
use Rattle.classes.specs.Classes.{house}
use Rattle.classes.proofs.AnswerLaws.{by_refusal, by_check}
use Rattle.classes.proofs.checking.check_classes.Goals as goal

pub returns-in_err-class_refusal : goal.returns-in_err-class_refusal
returns-in_err-class_refusal c =
    let p = err_from_is_err_and c.from_residual.result c.from_residual.ensures.1 in
    let s = c.args in
    rw (p.1, p.2) (by_refusal house s.plan.now s.classes.now s.first.now s.second.now s.limit _ c.in_err-class_refusal.ensures (number_some _))

pub returns : goal.returns
returns c = let s = c.args in
    by_check house s.plan.now s.classes.now s.limit _ _ _ (sym c.in_ok-class_refusal.ensures) c.check.ensures
