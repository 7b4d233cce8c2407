-- `conversion::converting::without_labels` meets its contract: the tests in their order, and then the plan without labels.
use mathlib.Core.Path.{◌≡◌, sym, ap, ◌∙◌}
use mathlib.Core.Bool.{true}
use Prim.Native.Nat.{◌+◌}
use native.Mathlib.Omega.{arith}
use borrow.Author.Rules.{rules}
use Rattle.std.proofs.lemmas.Result.{err_from_is_err_and}
use Rattle.plan.specs.Layout.{plan_of, labelled_length_for}
use Rattle.plan.proofs.Tests.{denied, granted}
use Rattle.conversion.specs.Conversion.{start_refusal, unlabelled}
use Rattle.conversion.proofs.Answers.{started, without_by_plan, without_by_label, without_by_room, without_converted}
use Rattle.conversion.proofs.converting.without_labels.Goals as goal
use Rattle.conversion.proofs.converting.without_labels.Goals.{After-start_refusal, In_ok-start_refusal, Else-not-is_unlabelled}

-- the length that was asked for
asked : (c : After-start_refusal) → let bs = c.args.plan.now in c.length_for.result + c.points.result ≡ labelled_length_for (plan_of bs)
unfolding labelled_length_for
asked c = omega arith

pub returns-in_err-start_refusal : goal.returns-in_err-start_refusal
returns-in_err-start_refusal c =
    let p = err_from_is_err_and c.from_residual.result c.from_residual.ensures.1 in
    rw (p.1, p.2) (without_by_plan c.args.plan.now c.args.out.now _ (c.in_err-start_refusal.ensures ∙ ap (start_refusal _) (asked (goal.at.returns-in_err-start_refusal c).After-start_refusal)))

-- the plan is accepted, and of the form with labels
start : (c : In_ok-start_refusal) → let bs = c.args.plan.now in start_refusal bs (labelled_length_for (plan_of bs)) ≡ 0
start c = sym (c.in_ok-start_refusal.ensures ∙ ap (start_refusal _) (asked (goal.at.In_ok-start_refusal c).After-start_refusal))

pub returns-then-not-is_unlabelled : goal.returns-then-not-is_unlabelled
returns-then-not-is_unlabelled c = without_by_label _ _ (start (goal.at.returns-then-not-is_unlabelled c).In_ok-start_refusal) (denied c.is_unlabelled.ensures c.if-not-is_unlabelled.true)

-- and its labels are 0
zeros : (c : Else-not-is_unlabelled) → unlabelled (plan_of c.args.plan.now) ≡ true
zeros c = granted c.is_unlabelled.ensures c.if-not-is_unlabelled.false

pub returns-then-out-length_for : goal.returns-then-out-length_for
returns-then-out-length_for c = let d = goal.at.returns-then-out-length_for c in
    without_by_room _ _ (start d.In_ok-start_refusal) (zeros d.Else-not-is_unlabelled) (omega arith)

pub write_relabelled-requires-clause-accepted : goal.write_relabelled-requires-clause-accepted
write_relabelled-requires-clause-accepted c = let a = (started _ _ (start (goal.at.write_relabelled-requires-clause-accepted c).In_ok-start_refusal)).0 in
    search rules

pub returns : goal.returns
returns c = let d = goal.at.returns c in
    let w = c.write_relabelled in
    without_converted c.args.plan.now c.args.out.now 0 w.result w.ensures.value w.ensures.out_value (start d.In_ok-start_refusal) (zeros d.Else-not-is_unlabelled) (omega arith) (omega arith)
