-- What a step changes: a point comes that had not, or a second passes; and what was true of the state, for each of them.
use mathlib.Core.Path.{◌≡◌}
use mathlib.Core.Bool.{Bool, false, cond, not, ◌&&◌}
use mathlib.Core.Logic.{◌⊎◌, inl, inr}
use mathlib.Core.List.{List}
use Prim.Native.Nat.{ℕ, suc, ◌+◌, ◌^◌, ◌≤◌, ◌<◌}
use native.Mathlib.Decide.{ℕ_discrete, dec_lt}
use native.Mathlib.Omega.{arith}
use lib.Dec.{T as Is, ltb, T_not, not_T, ltb→lt, lt→ltb, leb→le, le→leb}
use lib.Ieee.Fits.{and_l, and_r, and_i}
use borrow.Author.Tests.{lt-ltb, le-ltb}
use Rattle.plan.specs.Plan.{Plan}
use Rattle.plan.specs.Refusal.{differs}
use Rattle.plan.proofs.Ranges.{differs_at}
use Rattle.plan.proofs.Truth.{is?, is_true, is_not}
use Rattle.rules_panel.specs.Dramas.{AnyDuration, Drama}
use Rattle.rules_panel.specs.Strategies.{NoEnd}
use Rattle.rules_panel.proofs.Dramas.{changed_at, changed_off}
use Rattle.rules_panel.proofs.Positions.{no_end_test}
use Rattle.rules_follow.specs.Following.{first, State, executed, execute, pass, Preference, learnt, due, goes_by, ready, chosen, act, next_state}
use Rattle.rules_follow.proofs.Searching.{first_passes, first_none, first_found}

-- ---- a point has come
abbrev pub Executed : State → ℕ → Type 0
Executed s x = 0 < s.step x

abbrev pub done? : (s : State) (x : ℕ) → Dec (Executed s x)
done? s x = dec_lt 0 (s.step x)

-- what a step leaves of a point, and what it makes of one that comes
pub record Unchanged (s s' : State) (x : ℕ) : Type 0 where
  pub step_is : s'.step x ≡ s.step x
  pub time_is : s'.time x ≡ s.time x

pub record Newly (s s' : State) (x : ℕ) : Type 0 where
  pub was_not : Executed s x → ⊥
  pub step_is : s'.step x ≡ suc s.steps
  pub time_is : s'.time x ≡ s.now

pub comes_at : (s : State) (y x : ℕ) → x ≡ y → ((execute s y).step x ≡ suc s.steps) × ((execute s y).time x ≡ s.now)
comes_at s y x e = (changed_at y (suc s.steps) s.step x e, changed_at y s.now s.time x e)

pub comes_off : (s : State) (y x : ℕ) → (x ≡ y → ⊥) → Unchanged s (execute s y) x
comes_off s y x n = record { step_is = changed_off y (suc s.steps) s.step x n; time_is = changed_off y s.now s.time x n }

pub comes_each : (s : State) (y : ℕ) → (Executed s y → ⊥) → (x : ℕ) → Unchanged s (execute s y) x ⊎ Newly s (execute s y) x
comes_each s y fresh x = go (ℕ_discrete x y)
  where
    go : Dec (x ≡ y) → Unchanged s (execute s y) x ⊎ Newly s (execute s y) x
    go (yes e) = let c = comes_at s y x e in inr (record { was_not = rw e fresh; step_is = c.0; time_is = c.1 })
    go (no e) = inl (comes_off s y x e)

pub still_executed : (s : State) (y : ℕ) → (Executed s y → ⊥) → (x : ℕ) → Executed s x → Executed (execute s y) x
still_executed s y fresh x d = omega (arith, (comes_off s y x (λ e. fresh (rw e at d))).step_is, d)

test_no_end : (P : Plan) (x : ℕ) → Is (differs P.finish x P.links) → NoEnd P x
test_no_end P x t = record { no_end = λ i h e. differs_at P.finish x P.links i t h e }

-- a link that is on its way
pub record Running (P : Plan) (s : State) (i : ℕ) : Type 0 where
  pub begun : Executed s (P.activation i)
  pub not_ended : Executed s (P.finish i) → ⊥

module _ {P : Plan} (r : Drama P AnyDuration) where
  abbrev pub answers_in : State → ℕ → ℕ
  answers_in s = learnt P r.scenario s

  pub of_due : (s : State) (i : ℕ) → Is (due P r.situation s i) → Running P s i × (s.time (P.activation i) + r.situation i ≤ s.now)
  of_due s i t =
      let a = and_l (executed s (P.activation i) && not (executed s (P.finish i))) _ t in
      let b = and_l (executed s (P.activation i)) _ a in
      let c = and_r (executed s (P.activation i)) _ a in
      (record { begun = ltb→lt 0 _ b; not_ended = λ d. T_not (executed s (P.finish i)) c (lt→ltb 0 _ d) }, leb→le _ _ (and_r (executed s (P.activation i) && not (executed s (P.finish i))) _ t))

  pub to_due : (s : State) (i : ℕ) → Running P s i → s.time (P.activation i) + r.situation i ≤ s.now → Is (due P r.situation s i)
  to_due s i g h = and_i (executed s (P.activation i) && not (executed s (P.finish i))) _ (and_i (executed s (P.activation i)) _ (lt→ltb 0 _ g.begun) (not_T (executed s (P.finish i)) (λ t. g.not_ended (ltb→lt 0 _ t)))) (le→leb _ _ h)

  -- no end is due
  abbrev pub NoneDue : State → Type 0
  NoneDue s = (i : ℕ) → i < P.links → Running P s i → s.now < s.time (P.activation i) + r.situation i

module _ {P : Plan} (T : List ℕ) (r : Drama P AnyDuration) where
  -- a point that may come, and a set that it goes by
  pub record MayCome (s : State) (x : ℕ) : Type 0 where
    pub inside : x < P.points
    pub not_done : Executed s x → ⊥
    pub no_end : NoEnd P x
    pub by : ℕ
    pub by_in : by < 2 ^ P.links
    pub goes : Is (goes_by P T s (answers_in r s) x by)

  -- the three kinds of step
  pub data Stepped (s s' : State) : Type 0 where
    link_ends : (i : ℕ) → i < P.links → Running P s i → s.time (P.activation i) + r.situation i ≤ s.now → s' ≡ execute s (P.finish i) → Stepped s s'
    point_comes : (x : ℕ) → MayCome s x → s' ≡ execute s x → Stepped s s'
    second_passes : NoneDue r s → ((x : ℕ) → MayCome s x → ⊥) → s' ≡ pass s → Stepped s s'

  of_ready : (s : State) (x : ℕ) → Is (ready P T s (answers_in r s) x) → MayCome s x
  unfolding ready
  of_ready s x t =
      let a = and_l (ltb x P.points && not (executed s x) && differs P.finish x P.links) _ t in
      let b = and_l (ltb x P.points && not (executed s x)) _ a in
      let c = ltb→lt _ _ (and_r (ltb x P.points && not (executed s x) && differs P.finish x P.links) _ t) in
      record {
        inside = ltb→lt x P.points (and_l (ltb x P.points) _ b);
        not_done = λ d. T_not (executed s x) (and_r (ltb x P.points) _ b) (lt→ltb 0 _ d);
        no_end = test_no_end P x (and_r (ltb x P.points && not (executed s x)) _ a);
        by = first (goes_by P T s (answers_in r s) x) (2 ^ P.links);
        by_in = c;
        goes = first_passes (goes_by P T s (answers_in r s) x) (2 ^ P.links) c;
      }

  to_ready : (s : State) (x : ℕ) → MayCome s x → Is (ready P T s (answers_in r s) x)
  unfolding ready
  to_ready s x m =
      and_i (ltb x P.points && not (executed s x) && differs P.finish x P.links) _
      (and_i (ltb x P.points && not (executed s x)) _ (and_i (ltb x P.points) _ (lt→ltb _ _ m.inside) (not_T (executed s x) (λ t. m.not_done (ltb→lt 0 _ t)))) (no_end_test P x m.no_end))
      (lt→ltb _ _ (first_found (goes_by P T s (answers_in r s) x) (2 ^ P.links) m.by m.by_in m.goes))

module _ {P : Plan} (T : List ℕ) (prefer : Preference) (r : Drama P AnyDuration) where
  -- the point chosen may come, if it is one of the plan's; if it is none, no point may
  module _ (s : State) where
    abbrev may : ℕ → Bool
    may x = ready P T s (answers_in r s) x

    abbrev preferred : ℕ
    preferred = prefer s (answers_in r s)

    chosen_may : chosen P T prefer s (answers_in r s) < P.points → MayCome T r s (chosen P T prefer s (answers_in r s))
    unfolding chosen
    chosen_may h = go (is? (may preferred)) h
      where
        go : Is (may preferred) ⊎ (may preferred ≡ false) → cond (may preferred) preferred (first may P.points) < P.points → MayCome T r s (cond (may preferred) preferred (first may P.points))
        go (inl t) k = rw (is_true (may preferred) t) (of_ready T r s preferred t)
        go (inr e) k = rw e (of_ready T r s (first may P.points) (first_passes may P.points (rw e at k)))

    none_may : (chosen P T prefer s (answers_in r s) < P.points → ⊥) → (x : ℕ) → MayCome T r s x → ⊥
    unfolding chosen
    none_may n x m = go (is? (may preferred)) n
      where
        go : Is (may preferred) ⊎ (may preferred ≡ false) → (cond (may preferred) preferred (first may P.points) < P.points → ⊥) → ⊥
        go (inl t) k = k (rw (is_true (may preferred) t) (of_ready T r s preferred t).inside)
        go (inr e) k = k (rw e (first_found may P.points x m.inside (to_ready T r s x m)))

  pub step_is : (s : State) → Stepped T r s (next_state P T prefer r s)
  unfolding act
  step_is s = go (dec_lt i P.links) (dec_lt x P.points)
    where
      i : ℕ
      i = first (due P r.situation s) P.links

      x : ℕ
      x = chosen P T prefer s (answers_in r s)

      go : Dec (i < P.links) → Dec (x < P.points) → Stepped T r s (cond (ltb i P.links) (execute s (P.finish i)) (cond (ltb x P.points) (execute s x) (pass s)))
      go (yes h) d = let a = of_due r s i (first_passes (due P r.situation s) P.links h) in link_ends i h a.0 a.1 (rw (lt-ltb i P.links h))
      go (no h) (yes k) = point_comes x (chosen_may s k) (rw (le-ltb i P.links (omega arith), lt-ltb x P.points k))
      go (no h) (no k) = second_passes early (none_may s k) (rw (le-ltb i P.links (omega arith), le-ltb x P.points (omega arith)))
        where
          early : NoneDue r s
          early k hk g = pick (dec_lt s.now (s.time (P.activation k) + r.situation k))
            where
              pick : Dec (s.now < s.time (P.activation k) + r.situation k) → s.now < s.time (P.activation k) + r.situation k
              pick (yes q) = q
              pick (no q) = absurd (is_not (first_none (due P r.situation s) P.links h k hk) (to_due r s k g (omega arith)))
