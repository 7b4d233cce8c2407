-- `plan_labels::labels::point_label_fits` meets its contract: each early return rewrites the test that failed or held, the last one those that held.
use mathlib.Core.Path.{◌∙◌}
use borrow.Author.Tests.{le-ltb, lt-ltb}
use Rattle.plan.specs.Refusal.{point_label_fits}
use Rattle.plan.proofs.Tests.{denied, granted}
use Rattle.plan_labels.proofs.labels.point_label_fits.Goals as goal

pub returns-else-label_fits : goal.returns-else-label_fits
unfolding point_label_fits
returns-else-label_fits c = c.if-label_fits.false ∙ simp (← c.point_label-label.ensures.0, denied c.label_fits.ensures c.if-label_fits.false)

pub returns-then-x-gt0 : goal.returns-then-x-gt0
unfolding point_label_fits
returns-then-x-gt0 c = simp (← c.point_label-label.ensures.0, granted c.label_fits.ensures c.if-label_fits.true, lt-ltb _ _ c.if-x-gt0.true)

pub returns-else-x-gt0 : goal.returns-else-x-gt0
unfolding point_label_fits
returns-else-x-gt0 c = simp (← c.point_label-label.ensures.0, granted c.label_fits.ensures c.if-label_fits.true, le-ltb _ _ c.if-x-gt0.false)
