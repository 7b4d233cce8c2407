-- `plan_labels::labels::point_well_defined` meets its contract: each early return rewrites the test that failed, the last one those that held.
use mathlib.Core.Path.{◌∙◌}
use Rattle.plan.specs.Refusal.{point_well_defined}
use Rattle.plan.proofs.Tests.{denied, granted}
use Rattle.plan_labels.proofs.labels.point_well_defined.Goals as goal

pub returns-else-contains_observers : goal.returns-else-contains_observers
unfolding point_well_defined
returns-else-contains_observers c = c.if-contains_observers.false ∙ simp (← c.point_label.ensures.0, denied c.contains_observers.ensures c.if-contains_observers.false)

pub returns-then-contains_observers : goal.returns-then-contains_observers
unfolding point_well_defined
returns-then-contains_observers c = simp (← c.point_label.ensures.0, granted c.contains_observers.ensures c.if-contains_observers.true) c.comes_after.ensures
