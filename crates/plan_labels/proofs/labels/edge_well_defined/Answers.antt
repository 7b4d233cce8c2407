-- `plan_labels::labels::edge_well_defined` meets its contract: each early return rewrites the test that failed, the last one those that held.
use mathlib.Core.Bool.{and-false}
use Rattle.plan.specs.Refusal.{edge_well_defined}
use Rattle.plan.proofs.Tests.{denied, granted}
use Rattle.plan_labels.proofs.labels.edge_well_defined.Goals as goal

pub returns-then-not-contains_label : goal.returns-then-not-contains_label
unfolding edge_well_defined
returns-then-not-contains_label c = simp (← c.edge_label-label.ensures.0, ← c.edge_from.ensures.0, ← c.point_label.ensures.0, denied c.contains_label.ensures c.if-not-contains_label.true)

pub returns-then-not-contains_label-2 : goal.returns-then-not-contains_label-2
unfolding edge_well_defined
returns-then-not-contains_label-2 c = let l = c.edge_label-label in
    simp (← l.ensures.0, ← c.edge_to.ensures.0, ← c.point_label-2.ensures.0, denied c.contains_label-2.ensures c.if-not-contains_label-2.true, and-false)

pub returns : goal.returns
unfolding edge_well_defined
returns c = simp (← c.edge_label-label.ensures.0, ← c.edge_from.ensures.0, ← c.point_label.ensures.0, granted c.contains_label.ensures c.if-not-contains_label.false, ← c.edge_to.ensures.0, ← c.point_label-2.ensures.0, granted c.contains_label-2.ensures c.if-not-contains_label-2.false) c.contains_observers.ensures
