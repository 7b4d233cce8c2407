-- `plan_labels::labels::puts_after` meets its contract: each early return rewrites the test that failed, the last one those that held.
use mathlib.Core.Path.{◌≡◌}
use mathlib.Core.Bool.{false, and-false}
use Prim.Native.Nat.{ℕ, ◌<◌}
use native.Mathlib.Omega.{arith}
use borrow.Author.Tests.{lt-ltb, eq-eqb, ne_eqb}
use lib.Dec.{eqb}
use Rattle.plan.specs.Plan.{Plan}
use Rattle.plan.specs.Refusal.{puts_after}
use Rattle.plan_labels.proofs.labels.puts_after.Goals as goal

weightless : (P : Plan) (x j i : ℕ) → P.down i ≡ 0 → false ≡ puts_after P x j i
unfolding puts_after
weightless P x j i d = simp (d, and-false)

last : (P : Plan) (x j i : ℕ) → P.from i ≡ x → P.to i ≡ P.observer j → 0 < P.down i → eqb (P.label i) (P.point_label x) ≡ puts_after P x j i
unfolding puts_after
last P x j i f t d = simp (eq-eqb, lt-ltb)

pub returns-then-start-x : goal.returns-then-start-x
unfolding puts_after
returns-then-start-x c = simp (← c.edge_from-start.ensures.0, ne_eqb _ _ c.if-start-x.true)

pub returns-then-end-observer : goal.returns-then-end-observer
unfolding puts_after
returns-then-end-observer c = simp (← c.edge_to-end.ensures.0, ← c.observer.ensures.0, ne_eqb _ _ c.if-end-observer.true, and-false)

pub returns-then-edge_down-eq0 : goal.returns-then-edge_down-eq0
returns-then-edge_down-eq0 c = weightless _ _ _ _ (omega arith)

pub returns : goal.returns
returns c = rw (c.edge_label.ensures.0, c.point_label.ensures.0) (last _ _ _ _ (omega arith) (omega arith) (omega arith))
