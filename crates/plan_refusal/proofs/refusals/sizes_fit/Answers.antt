-- `plan_refusal::refusals::sizes_fit` meets its contract: each early return rewrites the test that failed, the last one those that held.
use mathlib.Core.Path.{◌≡◌}
use mathlib.Core.Bool.{and-false}
use Prim.Native.Nat.{◌≤◌}
use native.Mathlib.Omega.{arith}
use borrow.Author.Tests.{le-leb, lt-leb}
use lib.Dec.{leb}
use Rattle.plan.specs.Plan.{Plan, cells}
use Rattle.plan.specs.Refusal.{sizes_fit}
use Rattle.plan_refusal.proofs.refusals.sizes_fit.Goals as goal

last : (P : Plan) → 2 ≤ P.points → P.points ≤ 32 → P.propositions ≤ 4 → P.links ≤ 4 → P.edges ≤ 128 → leb (cells P) 16384 ≡ sizes_fit P
unfolding sizes_fit
last P n n' p k e = simp le-leb

pub returns-then-n-lt2 : goal.returns-then-n-lt2
unfolding sizes_fit
returns-then-n-lt2 c = simp (← c.points-n.ensures.0, lt-leb _ _ c.if-n-lt2.true)

pub returns-then-n-gt32 : goal.returns-then-n-gt32
unfolding sizes_fit
returns-then-n-gt32 c = simp (← c.points-n.ensures.0, lt-leb _ _ c.if-n-gt32.true, and-false)

pub returns-then-propositions-gt4 : goal.returns-then-propositions-gt4
unfolding sizes_fit
returns-then-propositions-gt4 c = simp (← c.propositions.ensures.0, lt-leb _ _ c.if-propositions-gt4.true, and-false)

pub returns-then-links-gt4 : goal.returns-then-links-gt4
unfolding sizes_fit
returns-then-links-gt4 c = simp (← c.links.ensures.0, lt-leb _ _ c.if-links-gt4.true, and-false)

pub returns-then-edges-gt128 : goal.returns-then-edges-gt128
unfolding sizes_fit
returns-then-edges-gt128 c = simp (← c.edges.ensures.0, lt-leb _ _ c.if-edges-gt128.true, and-false)

pub returns : goal.returns
returns c = rw c.cells.ensures (last _ (omega arith) (omega arith) (omega arith) (omega arith) (omega arith))
