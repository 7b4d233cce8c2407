-- `plan_refusal::refusals::edge_ends_fit` meets its contract: each early return rewrites the test that failed, the last one those that held.
use mathlib.Core.Path.{◌≡◌}
use mathlib.Core.Bool.{and-false}
use Prim.Native.Nat.{ℕ, ◌≤◌, ◌<◌}
use native.Mathlib.Omega.{arith}
use borrow.Author.Tests.{le-ltb, lt-ltb, le-leb, lt-leb, eq-eqb, ne_eqb}
use lib.Dec.{leb}
use Rattle.plan.specs.Plan.{Plan}
use Rattle.plan.specs.Refusal.{most_seconds, edge_ends_fit}
use Rattle.plan_refusal.proofs.refusals.edge_ends_fit.Goals as goal

last : (P : Plan) (i : ℕ) → P.from i < P.points → P.to i < P.points → (P.from i ≡ P.to i → ⊥) → P.up i ≤ most_seconds → leb (P.down i) most_seconds ≡ edge_ends_fit P i
unfolding edge_ends_fit
last P i x y d u = simp (lt-ltb, ne_eqb, le-leb)

pub returns-then-n-x : goal.returns-then-n-x
unfolding edge_ends_fit
returns-then-n-x c = simp (← c.points-n.ensures.0, ← c.from-x.ensures.0, le-ltb _ _ c.if-n-x.true)

pub returns-then-n-y : goal.returns-then-n-y
unfolding edge_ends_fit
returns-then-n-y c = simp (← c.points-n.ensures.0, ← c.to-y.ensures.0, le-ltb _ _ c.if-n-y.true, and-false)

pub returns-then-x-y : goal.returns-then-x-y
unfolding edge_ends_fit
returns-then-x-y c = simp (← c.from-x.ensures.0, ← c.to-y.ensures.0, eq-eqb _ _ c.if-x-y.true, and-false)

pub returns-then-up-gt-MOST_SECONDS : goal.returns-then-up-gt-MOST_SECONDS
unfolding edge_ends_fit
returns-then-up-gt-MOST_SECONDS c = simp (← c.up.ensures.0, lt-leb _ _ c.if-up-gt-MOST_SECONDS.true, and-false)

pub returns : goal.returns
returns c = rw c.down.ensures.0 (last _ _ (omega arith) (omega arith) (λ e. omega arith) (omega arith))
