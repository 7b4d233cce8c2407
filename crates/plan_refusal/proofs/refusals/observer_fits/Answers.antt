-- `plan_refusal::refusals::observer_fits` meets its contract: each early return rewrites the test that failed, the last one those that held.
use mathlib.Core.Bool.{and-false}
use native.Mathlib.Omega.{arith}
use borrow.Author.Tests.{le-ltb, lt-ltb}
use Rattle.plan.specs.Refusal.{observer_fits}
use Rattle.plan_refusal.proofs.refusals.observer_fits.Goals as goal

pub returns-then-x-eq0 : goal.returns-then-x-eq0
unfolding observer_fits
returns-then-x-eq0 c = simp (← c.observer-x.ensures.0, c.if-x-eq0.true)

pub returns-then-points-x : goal.returns-then-points-x
unfolding observer_fits
returns-then-points-x c = simp (← c.points.ensures.0, ← c.observer-x.ensures.0, le-ltb _ _ c.if-points-x.true, and-false)

pub returns : goal.returns
unfolding observer_fits
returns c = let x = c.observer-x in
    simp (← c.points.ensures.0, ← x.ensures.0, lt-ltb 0 x.result (omega arith), lt-ltb _ _ c.if-points-x.false) c.not_observing.ensures
