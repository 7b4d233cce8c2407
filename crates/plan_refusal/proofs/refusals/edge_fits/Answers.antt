-- `plan_refusal::refusals::edge_fits` meets its contract: each early return rewrites the test that failed, the last one those that held.
use mathlib.Core.Bool.{and-false}
use Rattle.plan.specs.Refusal.{edge_fits}
use Rattle.plan.proofs.Tests.{denied, granted}
use Rattle.plan_refusal.proofs.refusals.edge_fits.Goals as goal

pub returns-then-not-edge_ends_fit : goal.returns-then-not-edge_ends_fit
unfolding edge_fits
returns-then-not-edge_ends_fit c = simp (denied c.edge_ends_fit.ensures c.if-not-edge_ends_fit.true)

pub returns-then-not-label_fits : goal.returns-then-not-label_fits
unfolding edge_fits
returns-then-not-label_fits c = simp (← c.label.ensures.0, denied c.label_fits.ensures c.if-not-label_fits.true, and-false)

pub returns : goal.returns
unfolding edge_fits
returns c = simp (granted c.edge_ends_fit.ensures c.if-not-edge_ends_fit.false, ← c.label.ensures.0, granted c.label_fits.ensures c.if-not-label_fits.false, ← c.spare.ensures.0)
