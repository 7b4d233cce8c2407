-- `plan_refusal::refusals::duration_fits` meets its contract: each early return rewrites the test that failed, the last all that held.
use mathlib.Core.Bool.{and-false}
use native.Mathlib.Omega.{arith}
use borrow.Author.Tests.{le-ltb, lt-ltb}
use Rattle.plan.specs.Refusal.{duration_fits}
use Rattle.plan_refusal.proofs.refusals.duration_fits.Goals as goal

pub returns-then-s-eq0 : goal.returns-then-s-eq0
unfolding duration_fits
returns-then-s-eq0 c = simp (← c.link_least-s.ensures.0, c.if-s-eq0.true)

pub returns-then-y-s : goal.returns-then-y-s
unfolding duration_fits
returns-then-y-s c = simp (← c.link_least-s.ensures.0, ← c.link_most-y.ensures.0, le-ltb _ _ c.if-y-s.true, and-false)

pub returns : goal.returns
unfolding duration_fits
returns c = simp (← c.link_least-s.ensures.0, ← c.link_most-y.ensures.0, lt-ltb 0 c.link_least-s.result (omega arith), lt-ltb _ _ c.if-y-s.false)
