-- `plan_refusal::refusals::length_fits` meets its contract: each return rewrites the test that held or failed.
use borrow.Author.Tests.{eq-eqb, ne_eqb}
use Rattle.plan.specs.Layout.{labelled_length_for}
use Rattle.plan.specs.Refusal.{length_fits}
use Rattle.plan_refusal.proofs.refusals.length_fits.Goals as goal

pub returns-then-plan-end : goal.returns-then-plan-end
unfolding length_fits
returns-then-plan-end c = simp (← c.length_for-end.ensures.0, eq-eqb _ _ c.if-plan-end.true)

pub returns : goal.returns
unfolding length_fits labelled_length_for
returns c = simp (← c.length_for-end.ensures.0, ← c.points.ensures.0, ne_eqb _ _ c.if-plan-end.false)
