-- `conversion::converting::with_labels` meets its contract: the tests in their order, and then the plan with labels 0.
use mathlib.Core.Path.{◌≡◌, sym}
use native.Mathlib.Omega.{arith}
use borrow.Author.Rules.{rules}
use Rattle.std.proofs.lemmas.Result.{err_from_is_err_and}
use Rattle.plan.specs.Layout.{plan_of, length_for, labelled_length_for}
use Rattle.conversion.specs.Conversion.{start_refusal}
use Rattle.conversion.proofs.Answers.{started, with_by_plan, with_by_room, with_converted}
use Rattle.conversion.proofs.converting.with_labels.Goals as goal
use Rattle.conversion.proofs.converting.with_labels.Goals.{In_ok-start_refusal}

pub returns-in_err-start_refusal : goal.returns-in_err-start_refusal
returns-in_err-start_refusal c =
    let p = err_from_is_err_and c.from_residual.result c.from_residual.ensures.1 in
    rw (p.1, p.2) (with_by_plan c.args.plan.now c.args.out.now _ (rw c.length_for.ensures.0 at c.in_err-start_refusal.ensures))

-- the plan is accepted, and of the form without labels
start : (c : In_ok-start_refusal) → let bs = c.args.plan.now in start_refusal bs (length_for (plan_of bs)) ≡ 0
start c = rw (← c.length_for.ensures.0) (sym c.in_ok-start_refusal.ensures)

pub returns-then-out-length_for : goal.returns-then-out-length_for
unfolding labelled_length_for
returns-then-out-length_for c = with_by_room _ _ (start (goal.at.returns-then-out-length_for c).In_ok-start_refusal) (omega arith)

pub write_relabelled-requires-clause-accepted : goal.write_relabelled-requires-clause-accepted
write_relabelled-requires-clause-accepted c = let a = (started _ _ (start (goal.at.write_relabelled-requires-clause-accepted c).In_ok-start_refusal)).0 in
    search rules

pub returns : goal.returns
unfolding labelled_length_for
returns c = let s = c.args in
    let n = c.points-labels in
    let w = c.write_relabelled in
    with_converted s.plan.now s.out.now n.result w.result w.ensures.value w.ensures.out_value (start (goal.at.returns c).In_ok-start_refusal) (omega arith) n.ensures.0
