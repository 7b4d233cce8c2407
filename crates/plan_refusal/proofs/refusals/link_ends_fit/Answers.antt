-- `plan_refusal::refusals::link_ends_fit` meets its contract: each early return rewrites the test that failed, the last one those that held.
use mathlib.Core.Path.{◌≡◌, ◌∙◌}
use mathlib.Core.Bool.{true, and-false}
use Prim.Native.Nat.{ℕ, ◌<◌}
use native.Mathlib.Omega.{arith}
use borrow.Author.Tests.{le-ltb, lt-ltb, eq-eqb, ne_eqb}
use Rattle.plan.specs.Plan.{Plan}
use Rattle.plan.specs.Refusal.{differs, link_ends_fit}
use Rattle.plan.proofs.Tests.{denied, granted}
use Rattle.plan_refusal.proofs.refusals.link_ends_fit.Goals as goal

last : (P : Plan) (i : ℕ) → P.activation i < P.points → P.finish i < P.points → (P.activation i ≡ P.finish i → ⊥) → 0 < P.finish i → differs P.observer (P.finish i) P.propositions ≡ true → differs P.finish (P.finish i) i ≡ link_ends_fit P i
unfolding link_ends_fit
last P i a c d z o = simp (lt-ltb, ne_eqb, o)

pub returns-then-n-a : goal.returns-then-n-a
unfolding link_ends_fit
returns-then-n-a c = simp (← c.points-n.ensures.0, ← c.link_activation-a.ensures.0, le-ltb _ _ c.if-n-a.true)

pub returns-then-n-c : goal.returns-then-n-c
unfolding link_ends_fit
returns-then-n-c c = simp (← c.points-n.ensures.0, ← c.link_finish-c.ensures.0, le-ltb _ _ c.if-n-c.true, and-false)

pub returns-then-a-c : goal.returns-then-a-c
unfolding link_ends_fit
returns-then-a-c c = simp (← c.link_activation-a.ensures.0, ← c.link_finish-c.ensures.0, eq-eqb _ _ c.if-a-c.true, and-false)

pub returns-then-c-eq0 : goal.returns-then-c-eq0
unfolding link_ends_fit
returns-then-c-eq0 c = simp (← c.link_finish-c.ensures.0, c.if-c-eq0.true, and-false)

pub returns-then-not-not_observing : goal.returns-then-not-not_observing
unfolding link_ends_fit
returns-then-not-not_observing c = simp (← c.link_finish-c.ensures.0, ← c.propositions.ensures.0, denied c.not_observing.ensures c.if-not-not_observing.true, and-false)

pub returns : goal.returns
returns c = let f = c.link_finish-c.ensures.0 in
    let o = granted c.not_observing.ensures c.if-not-not_observing.false in
    c.not_finishing.ensures ∙ rw f (last _ _ (omega arith) (omega arith) (λ e. omega arith) (omega arith) (rw (← f, ← c.propositions.ensures.0) o))
