-- `plan_labels::labels::point_labels_fit` meets its contract: the loop's invariant is that the labels of the points passed fit.
use mathlib.Core.Path.{sym}
use native.Mathlib.Omega.{arith}
use Rattle.plan.specs.Layout.{plan_of}
use Rattle.plan.proofs.Truth.{is_true}
use Rattle.plan.proofs.Unlabelled.{none_fits}
use Rattle.plan.proofs.Forms.{label_none}
use Rattle.plan.proofs.Chains.{every_from_all}
use Rattle.std.proofs.Common.{rules}
use Rattle.plan_labels.proofs.labels.point_labels_fit.Goals as goal

pub returns-then-label_bytes-eq0 : goal.returns-then-label_bytes-eq0
returns-then-label_bytes-eq0 c = let bs = c.args.plan.now in
    sym (is_true _ (none_fits (plan_of bs) (λ x. label_none bs x (omega arith)) (plan_of bs).points))

pub returns : goal.returns
returns c = every_from_all _ c.points.ensures.0 (λ x b q k. search rules) c.all.ensures.ran
