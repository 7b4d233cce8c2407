-- `plan_refusal::refusals::link_fits` meets its contract: each early return rewrites the test that failed, the last one those that held.
use Rattle.plan.specs.Refusal.{is_link_fit}
use Rattle.plan.proofs.Tests.{denied, granted}
use Rattle.plan_refusal.proofs.refusals.link_fits.Goals as goal

pub returns-then-not-link_ends_fit : goal.returns-then-not-link_ends_fit
unfolding is_link_fit
returns-then-not-link_ends_fit c = simp (denied c.link_ends_fit.ensures c.if-not-link_ends_fit.true)

pub returns : goal.returns
unfolding is_link_fit
returns c = simp (granted c.link_ends_fit.ensures c.if-not-link_ends_fit.false) c.duration_fits.ensures
