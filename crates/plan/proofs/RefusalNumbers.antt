-- The numbers of refusals.
use mathlib.Core.Path.{◌≡◌}
use mathlib.Core.Bool.{Bool, true, false, cond, not}
use mathlib.Core.List.{List}
use Prim.Native.Nat.{ℕ, ◌≤◌, ◌<◌}
use native.Mathlib.Omega.{arith}
use lib.Dec.{ltb}
use lib.ListN.{length}
use Rattle.plan.specs.Layout.{plan_of}
use Rattle.plan.specs.Refusal.{every, sizes_fit, length_fits, observer_fits, point_label_fits, is_link_fit, edge_fits, well_defined, refusal_of, refusal}

either : (Q : ℕ → Type 0) (b : Bool) (k n : ℕ) → Q k → Q n → Q (cond b k n)
either Q true k n h i = h
either Q false k n h i = i

pub at_most : (most : ℕ) (b : Bool) (k n : ℕ) → k ≤ most → n ≤ most → cond b k n ≤ most
at_most most = either (λ n. n ≤ most)

-- what holds of each number, holds of a plan's
refusal_is : (bs : List ℕ) (Q : ℕ → Type 0) → Q 0 → Q 1 → Q 2 → Q 3 → Q 4 → Q 5 → Q 17 → Q 18 → Q (refusal bs)
unfolding refusal refusal_of
refusal_is bs Q q0 q1 q2 q3 q4 q5 q17 q18 =
    let P = plan_of bs in
    either Q (ltb (length bs) 4) 1 _ q1
    (either Q (not (sizes_fit P)) 2 _ q2
    (either Q (not (length_fits bs P)) 1 _ q1
    (either Q (not (every (observer_fits P) P.propositions)) 3 _ q3
    (either Q (not (every (point_label_fits P) P.points)) 17 _ q17
    (either Q (not (every (is_link_fit P) P.links)) 4 _ q4
    (either Q (not (every (edge_fits bs P) P.edges)) 5 _ q5
    (either Q (not (well_defined P)) 18 0 q18 q0)))))))

pub refusal_few : (bs : List ℕ) → refusal bs ≤ 18
refusal_few bs = refusal_is bs (λ n. n ≤ 18) (omega arith) (omega arith) (omega arith) (omega arith) (omega arith) (omega arith) (omega arith) (omega arith)

-- none is of a request's own
pub refusal_never : (bs : List ℕ) (k : ℕ) → 5 < k → k < 17 → refusal bs ≡ k → ⊥
refusal_never bs k h l = refusal_is bs (λ n. n ≡ k → ⊥) (λ e. omega arith) (λ e. omega arith) (λ e. omega arith) (λ e. omega arith) (λ e. omega arith) (λ e. omega arith) (λ e. omega arith) (λ e. omega arith)
