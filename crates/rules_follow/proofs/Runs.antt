-- When a point comes in a run: its step, no two points in one, and every point within the points and the longest wait.
use mathlib.Core.Path.{◌≡◌, refl, sym, ap, subst, ◌∙◌}
use mathlib.Core.Bool.{not}
use mathlib.Core.Logic.{◌⊎◌, inl, inr}
use mathlib.Core.List.{List}
use Prim.Native.Nat.{ℕ, zero, suc, ◌+◌, ◌-◌, ◌≤◌, ◌<◌}
use native.Mathlib.Nat.{le_refl}
use native.Mathlib.Decide.{ℕ_discrete, dec_le}
use native.Mathlib.Omega.{arith}
use lib.Dec.{T_not, not_T, ltb→lt, lt→ltb}
use lib.Pow.{pow_pos}
use Rattle.plan.specs.Counting.{count}
use Rattle.plan.specs.Plan.{Plan}
use Rattle.plan.proofs.CountLaws.{count_few, count_lt}
use Rattle.plan.proofs.Ranges.{WellFormed}
use Rattle.rules_panel.specs.Dramas.{AnyDuration, Drama}
use Rattle.rules_panel.proofs.Counts.{Some, some?}
use Rattle.rules_follow.specs.Following.{State, initial, executed, execute, pass, Preference, longest_wait, steps_by, run}
use Rattle.rules_follow.proofs.Lateness.{none_late}
use Rattle.rules_follow.proofs.TableLines.{Closed}
use Rattle.rules_follow.proofs.LinkChains.{has_le}
use Rattle.rules_follow.proofs.Stepping.{Executed, done?, Unchanged, Newly, comes_at, comes_off, comes_each, still_executed, Stepped, link_ends, point_comes, second_passes, step_is}
use Rattle.rules_follow.proofs.Invariant.{Invariant, next_second, holds}

-- what holds at m and goes on from one to the next holds from m on
from_on : (Q : ℕ → Type 0) (m n : ℕ) → m ≤ n → Q m → ((k : ℕ) → m ≤ k → Q k → Q (suc k)) → Q n
from_on Q m zero h q next = let e : m ≡ 0 = omega arith in rw e at q
from_on Q m (suc n) h q next = go (dec_le m n) (from_on Q m n)
  where
    go : Dec (m ≤ n) → (m ≤ n → Q m → ((k : ℕ) → m ≤ k → Q k → Q (suc k)) → Q n) → Q (suc n)
    go (yes l) before = next n l (before l q next)
    go (no l) before = let e : m ≡ suc n = omega arith in rw e at q

-- ---- one step
-- the point that comes in a step is the one that is new
new_is : (s : State) {u : State} (y x : ℕ) → u ≡ execute s y → Newly s u x → x ≡ y
new_is s {u} y x is n = go (ℕ_discrete x y)
  where
    go : Dec (x ≡ y) → x ≡ y
    go (yes e) = e
    go (no e) = absurd (n.was_not (omega (arith, n.step_is, (comes_off s y x e).step_is, ap (λ (v : State). v.step x) is)))

module _ (P : Plan) (T : List ℕ) (prefer : Preference) (r : Drama P AnyDuration) where
  each : {s u : State} → Stepped T r s u → (x : ℕ) → Unchanged s u x ⊎ Newly s u x
  each {s} (link_ends i h g e is) x = rw is (comes_each s (P.finish i) g.not_ended x)
  each {s} (point_comes y m is) x = rw is (comes_each s y m.not_done x)
  each (second_passes a b is) x = rw is (inl (record { step_is = refl; time_is = refl }))

  one_new : {s u : State} → Stepped T r s u → (x y : ℕ) → Newly s u x → Newly s u y → x ≡ y
  one_new {s} (link_ends i h g e is) x y a b = new_is s (P.finish i) x is a ∙ sym (new_is s (P.finish i) y is b)
  one_new {s} (point_comes z m is) x y a b = new_is s z x is a ∙ sym (new_is s z y is b)
  one_new {s} (second_passes p q is) x y a b = absurd (a.was_not (omega (arith, a.step_is, ap (λ (u : State). u.step x) is)))

  one_step : {s u : State} → Stepped T r s u → (u.steps ≡ suc s.steps) × (s.now ≤ u.now)
  one_step (link_ends i h g e is) = rw is (refl, le_refl _)
  one_step (point_comes y m is) = rw is (refl, le_refl _)
  one_step (second_passes a b is) = rw is (refl, omega arith)

  -- ---- many steps
  abbrev at : ℕ → State
  at m = run P T prefer r m

  step_at : (m : ℕ) → Stepped T r (at m) (at (suc m))
  unfolding run
  step_at m = step_is T prefer r (at m)

  steps_are : (m : ℕ) → (at m).steps ≡ m
  unfolding run
  steps_are zero = refl
  steps_are (suc m) = (one_step (step_at m)).0 ∙ ap suc (steps_are m)

  -- what has come stays
  pub stays : (m n x : ℕ) → m ≤ n → Executed (at m) x → Unchanged (at m) (at n) x
  stays m n x h d = from_on (λ k. Unchanged (at m) (at k) x) m n h (record { step_is = refl; time_is = refl }) (λ k l q. go k q (each (step_at k) x))
    where
      go : (k : ℕ) → Unchanged (at m) (at k) x → Unchanged (at k) (at (suc k)) x ⊎ Newly (at k) (at (suc k)) x → Unchanged (at m) (at (suc k)) x
      go k q (inl c) = record { step_is = c.step_is ∙ q.step_is; time_is = c.time_is ∙ q.time_is }
      go k q (inr c) = absurd (c.was_not (omega (arith, q.step_is, d)))

  pub no_earlier : (m n : ℕ) → m ≤ n → (at m).now ≤ (at n).now
  no_earlier m n h = from_on (λ k. (at m).now ≤ (at k).now) m n h (le_refl _) (λ k l q. omega (arith, q, (one_step (step_at k)).1))

  -- the step in which a point comes
  pub record Came (n x : ℕ) : Type 0 where
    pub before : ℕ
    pub within : before < n
    pub step_then : (at (suc before)).step x ≡ suc before
    pub step_is : (at n).step x ≡ suc before
    pub time_is : (at n).time x ≡ (at before).now

  pub came : (n x : ℕ) → Executed (at n) x → Came n x
  unfolding run
  came zero x d = absurd (omega arith)
  came (suc n) x d = go (each (step_at n) x) (came n x)
    where
      go : Unchanged (at n) (at (suc n)) x ⊎ Newly (at n) (at (suc n)) x → (Executed (at n) x → Came n x) → Came (suc n) x
      go (inl k) c = let b = c (omega (arith, k.step_is, d)) in record { before = b.before; within = omega (arith, b.within); step_then = b.step_then; step_is = k.step_is ∙ b.step_is; time_is = k.time_is ∙ b.time_is }
      go (inr k) c = let e = k.step_is ∙ ap suc (steps_are n) in record { before = n; within = omega arith; step_then = e; step_is = e; time_is = k.time_is }

  -- no two points come in one step
  pub one_each : (n x y : ℕ) → Executed (at n) x → (at n).step x ≡ (at n).step y → x ≡ y
  unfolding run
  one_each zero x y d e = absurd (omega arith)
  one_each (suc n) x y d e = go (each (step_at n) x) (each (step_at n) y) (one_each n x y)
    where
      old : (x : ℕ) → Unchanged (at n) (at (suc n)) x → (at (suc n)).step x ≡ suc (at n).steps → Executed (at n) x → ⊥
      old x k f d = let c = came n x d in omega (arith, k.step_is, f, steps_are n, c.step_is, c.within)

      go : Unchanged (at n) (at (suc n)) x ⊎ Newly (at n) (at (suc n)) x → Unchanged (at n) (at (suc n)) y ⊎ Newly (at n) (at (suc n)) y → (Executed (at n) x → (at n).step x ≡ (at n).step y → x ≡ y) → x ≡ y
      go (inl a) (inl b) c = c (omega (arith, a.step_is, d)) (omega (arith, a.step_is, b.step_is, e))
      go (inl a) (inr b) c = absurd (old x a (e ∙ b.step_is) (omega (arith, a.step_is, d)))
      go (inr a) (inl b) c = absurd (old y b (sym e ∙ a.step_is) (omega (arith, a.step_is, b.step_is, e)))
      go (inr a) (inr b) c = one_new (step_at n) x y a b

-- ---- the end of a run
-- the points that have not come, and the seconds up to the longest wait
left : Plan → State → ℕ
left P s = count (λ x. not (executed s x)) P.points

measure : Plan → List ℕ → State → ℕ
measure P T s = left P s + (longest_wait P T - s.now)

left_less : (P : Plan) (s : State) (y : ℕ) → (Executed s y → ⊥) → y < P.points → left P (execute s y) < left P s
unfolding left
left_less P s y n h =
    count_lt (λ x. not (executed (execute s y) x)) (λ x. not (executed s x)) P.points
    (λ x k t. not_T (executed s x) (λ d. T_not (executed (execute s y) x) t (lt→ltb 0 ((execute s y).step x) (still_executed s y n x (ltb→lt 0 (s.step x) d)))))
    y h (λ t. T_not (executed (execute s y) y) t (lt→ltb 0 ((execute s y).step y) (omega (arith, (comes_at s y y refl).0)))) (not_T (executed s y) (λ d. n (ltb→lt 0 (s.step y) d)))

module _ {P : Plan} (wf : WellFormed P) {T : List ℕ} (closed : Closed P T) (prefer : Preference) (r : Drama P AnyDuration) where
  progress : (s : State) → Invariant T r s → (x : ℕ) → x < P.points → (Executed s x → ⊥) → (u : State) → Stepped T r s u → measure P T u < measure P T s
  unfolding measure left
  progress s v x hx n u (link_ends i h g e is) = rw is (omega (arith, left_less P s (P.finish i) g.not_ended (wf.finish_in i h).1))
  progress s v x hx n u (point_comes y m is) = rw is (omega (arith, left_less P s y m.not_done m.inside))
  progress s v x hx n u (second_passes early none is) =
      let a : left P (pass s) ≡ left P s = refl in
      rw is (omega (arith, a, none_late r, has_le (next_second wf closed prefer r s v early none 0 (pow_pos P.links) x hx n)))

  abbrev Left : ℕ → Type 0
  Left m = Some (λ x. Executed (run P T prefer r m) x → ⊥) P.points

  left? : (m : ℕ) → Dec (Left m)
  left? m = some? (λ x. Executed (run P T prefer r m) x → ⊥) (λ x. not? (done? (run P T prefer r m) x)) P.points
    where
      not? : {A : Type 0} → Dec A → Dec (A → ⊥)
      not? (yes a) = no (λ f. f a)
      not? (no a) = yes a

  less : (m : ℕ) → Left m → measure P T (run P T prefer r (suc m)) < measure P T (run P T prefer r m)
  less m u = progress (run P T prefer r m) (holds wf closed prefer r m) u.number u.under u.holds (run P T prefer r (suc m)) (step_at P T prefer r m)

  when_none : (m n : ℕ) → (Left m → ⊥) → (x : ℕ) → x < P.points → Executed (run P T prefer r (n + m)) x
  when_none m n u x h = go (done? (run P T prefer r m) x)
    where
      go : Dec (Executed (run P T prefer r m) x) → Executed (run P T prefer r (n + m)) x
      go (yes d) = omega (arith, d, (stays P T prefer r m (n + m) x (omega arith) d).step_is)
      go (no d) = absurd (u (record { number = x; under = h; holds = d }))

  all_in : (n m : ℕ) → measure P T (run P T prefer r m) ≤ n → (x : ℕ) → x < P.points → Executed (run P T prefer r (n + m)) x
  all_in zero m h x hx = go (left? m)
    where
      go : Dec (Left m) → Executed (run P T prefer r (0 + m)) x
      go (yes u) = absurd (omega (arith, h, less m u))
      go (no u) = when_none m 0 u x hx
  all_in (suc n) m h x hx = go (left? m) (all_in n (suc m))
    where
      shift : n + suc m ≡ suc n + m
      shift = omega arith

      go : Dec (Left m) → (measure P T (run P T prefer r (suc m)) ≤ n → (x : ℕ) → x < P.points → Executed (run P T prefer r (n + suc m)) x) → Executed (run P T prefer r (suc n + m)) x
      go (no u) c = when_none m (suc n) u x hx
      go (yes u) c = subst (λ (z : ℕ). Executed (run P T prefer r z) x) shift (c (omega (arith, h, less m u)) x hx)

  -- every point comes in as many steps as there are points and seconds in the longest wait
  pub all_come : (x : ℕ) → x < P.points → Executed (run P T prefer r (steps_by P T)) x
  unfolding run measure left
  all_come x hx =
      let n = steps_by P T in
      let e : n + 0 ≡ n = omega arith in
      subst (λ (z : ℕ). Executed (run P T prefer r z) x) e (all_in n 0 (omega (arith, count_few (λ x. not (executed initial x)) P.points)) x hx)
