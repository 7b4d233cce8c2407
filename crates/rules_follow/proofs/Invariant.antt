-- What holds in every state of a panel that follows a closed table.
use mathlib.Core.Path.{◌≡◌, refl, sym, ◌∙◌}
use mathlib.Core.Bool.{cond}
use mathlib.Core.Logic.{inl, inr}
use mathlib.Core.List.{List}
use Prim.Native.Nat.{ℕ, zero, suc, ◌+◌, ◌^◌, ◌≤◌, ◌<◌}
use native.Mathlib.Nat.{le_refl}
use native.Mathlib.Decide.{ℕ_discrete}
use native.Mathlib.Omega.{arith}
use borrow.Author.Tests.{lt-ltb, le-ltb}
use Rattle.plan.specs.Plan.{Plan}
use Rattle.plan.proofs.Ranges.{WellFormed}
use Rattle.rules_panel.specs.Dramas.{AnyDuration, Drama}
use Rattle.rules_panel.specs.Strategies.{NoEnd}
use Rattle.rules_follow.specs.Following.{State, initial, executed, execute, pass, Preference, next_state, run}
use Rattle.rules_follow.proofs.TableLines.{Closed, start, weaker}
use Rattle.rules_follow.proofs.Stepping.{Executed, done?, Unchanged, comes_at, comes_off, still_executed, Running, NoneDue, MayCome, Stepped, link_ends, point_comes, second_passes, step_is}
use Rattle.rules_follow.proofs.KnownDigits.{Known}
use Rattle.rules_follow.proofs.Spreading.{Sure, Idle, spread}
use Rattle.rules_follow.proofs.KeptEdges.{WentBy}
use Rattle.rules_follow.proofs.GoingBy.{LinkIn, goes_bound, held_back}

-- the time of a point that has come, and now for one that has not
abbrev since : State → ℕ → ℕ
since s x = cond (executed s x) (s.time x) s.now

pub since_done : (s : State) (x : ℕ) → Executed s x → since s x ≡ s.time x
since_done s x d = rw (lt-ltb 0 (s.step x) d)

since_not : (s : State) (x : ℕ) → (Executed s x → ⊥) → since s x ≡ s.now
since_not s x n = rw (le-ltb 0 (s.step x) (omega arith))

module _ {P : Plan} (T : List ℕ) (r : Drama P AnyDuration) where
  -- links are as the drama has them; every point has, whatever links are left out, a line all of it known, of its time or of now; and went by some set, if it is no end
  pub record Invariant (s : State) : Type 0 where
    pub links : (i : ℕ) → i < P.links → LinkIn r s i
    pub sure : (D : ℕ) → D < 2 ^ P.links → (x : ℕ) → x < P.points → Sure T r s D x (since s x)
    pub went : (x : ℕ) → x < P.points → NoEnd P x → Executed s x → WentBy T r x (s.time x)

module _ {P : Plan} (wf : WellFormed P) {T : List ℕ} (closed : Closed P T) (prefer : Preference) (r : Drama P AnyDuration) where
  -- ---- a point comes
  module _ (s : State) (v : Invariant T r s) (y : ℕ) (fresh : Executed s y → ⊥) where
    kept : (x : ℕ) → Executed s x → Unchanged s (execute s y) x
    kept x d = comes_off s y x (λ e. fresh (rw e at d))

    was_done : (x : ℕ) → (x ≡ y → ⊥) → Executed (execute s y) x → Executed s x
    was_done x n d = omega (arith, (comes_off s y x n).step_is, d)

    since_kept : (x : ℕ) → since (execute s y) x ≡ since s x
    since_kept x = go (ℕ_discrete x y)
      where
        go : Dec (x ≡ y) → since (execute s y) x ≡ since s x
        go (yes e) = let c = comes_at s y x e in since_done (execute s y) x (omega (arith, c.0)) ∙ c.1 ∙ sym (since_not s x (rw e fresh))
        go (no e) = let c = comes_off s y x e in rw (c.step_is, c.time_is)

    known_kept : (j d : ℕ) → Known r s j d → Known r (execute s y) j d
    known_kept j d (inl e) = inl e
    known_kept j d (inr e) = inr (still_executed s y fresh (P.observer j) e.0, e.1)

    sure_kept : (D : ℕ) → D < 2 ^ P.links → (x : ℕ) → x < P.points → Sure T r (execute s y) D x (since (execute s y) x)
    sure_kept D hD x hx = rw (since_kept x) (weaker (v.sure D hD x hx) (le_refl _) (λ i k q. q) (λ j d k. known_kept j d))

    went_kept : (NoEnd P y → y < P.points → WentBy T r y s.now) → (x : ℕ) → x < P.points → NoEnd P x → Executed (execute s y) x → WentBy T r x ((execute s y).time x)
    went_kept new x hx ne d = go (ℕ_discrete x y)
      where
        go : Dec (x ≡ y) → WentBy T r x ((execute s y).time x)
        go (yes e) = rw ((comes_at s y x e).1, e) (new (rw e at ne) (rw e at hx))
        go (no e) = rw (comes_off s y x e).time_is (v.went x hx ne (was_done x e d))

    -- a link whose end is not the point that comes
    link_kept : (i : ℕ) → i < P.links → (P.finish i ≡ y → ⊥) → LinkIn r (execute s y) i
    link_kept i h n = record {
      begun = λ d. still_executed s y fresh (P.activation i) ((v.links i h).begun (was_done (P.finish i) n d));
      on_time = λ d. let b = was_done (P.finish i) n d in omega (arith, (kept (P.finish i) b).time_is, (kept (P.activation i) ((v.links i h).begun b)).time_is, (v.links i h).on_time b);
      on_way = λ g. go (done? s (P.activation i)) g.begun g.not_ended;
    }
      where
        go : Dec (Executed s (P.activation i)) → Executed (execute s y) (P.activation i) → (Executed (execute s y) (P.finish i) → ⊥) → s.now ≤ (execute s y).time (P.activation i) + r.situation i
        go (yes b) a e = omega (arith, (kept (P.activation i) b).time_is, (v.links i h).on_way (record { begun = b; not_ended = λ d. e (still_executed s y fresh (P.finish i) d) }))
        go (no b) a e = pick (ℕ_discrete (P.activation i) y)
          where
            pick : Dec (P.activation i ≡ y) → s.now ≤ (execute s y).time (P.activation i) + r.situation i
            pick (yes q) = omega (arith, (comes_at s y (P.activation i) q).1)
            pick (no q) = absurd (b (was_done (P.activation i) q a))

  -- ---- any step
  module _ (s : State) (v : Invariant T r s) where
    -- the end of a link that is due comes on time
    ends_on : (i : ℕ) → i < P.links → Running P s i → s.time (P.activation i) + r.situation i ≤ s.now → (k : ℕ) → k < P.links → LinkIn r (execute s (P.finish i)) k
    ends_on i h g e k hk = go (ℕ_discrete (P.finish k) (P.finish i))
      where
        here : LinkIn r (execute s (P.finish i)) i
        here = record {
          begun = λ d. still_executed s (P.finish i) g.not_ended (P.activation i) g.begun;
          on_time = λ d. omega (arith, (comes_at s (P.finish i) (P.finish i) refl).1, (kept s v (P.finish i) g.not_ended (P.activation i) g.begun).time_is, e, (v.links i h).on_way g);
          on_way = λ k. absurd (k.not_ended (omega (arith, (comes_at s (P.finish i) (P.finish i) refl).0)));
        }

        go : Dec (P.finish k ≡ P.finish i) → LinkIn r (execute s (P.finish i)) k
        go (yes q) = rw (wf.finish_once k i hk h q) here
        go (no q) = link_kept s v (P.finish i) g.not_ended k hk q

    -- no point may come and no end is due
    idle : NoneDue r s → ((x : ℕ) → MayCome T r s x → ⊥) → Idle T r s (suc s.now)
    idle early none = record {
      held = λ D hD all x hx ne n. held_back T r s v.links x D hx all (λ t. none x (record { inside = hx; not_done = n; no_end = ne; by = D; by_in = hD; goes = t }));
      sure = λ D hD x hx d. rw (← (since_done s x d)) (v.sure D hD x hx);
      on_way = early;
    }

    pub next_second : NoneDue r s → ((x : ℕ) → MayCome T r s x → ⊥)
        → (D : ℕ) → D < 2 ^ P.links → (x : ℕ) → x < P.points → (Executed s x → ⊥) → Sure T r s D x (suc s.now)
    next_second early none = spread wf closed r s (suc s.now) (idle early none)

    step_keeps : (u : State) → Stepped T r s u → Invariant T r u
    step_keeps u (link_ends i h g e is) = rw is (record {
      links = ends_on i h g e;
      sure = sure_kept s v (P.finish i) g.not_ended;
      went = went_kept s v (P.finish i) g.not_ended (λ ne. absurd (ne.no_end i h refl));
    })
    step_keeps u (point_comes x m is) = rw is (record {
      links = λ i h. link_kept s v x m.not_done i h (m.no_end.no_end i h);
      sure = sure_kept s v x m.not_done;
      went = went_kept s v x m.not_done (λ ne hx. record { by = m.by; by_in = m.by_in; bound = goes_bound T r s v.links x m.by m.goes });
    })
    step_keeps u (second_passes early none is) = rw is (record { links = links'; sure = sure'; went = v.went })
      where
        links' : (i : ℕ) → i < P.links → LinkIn r (pass s) i
        links' i h = record { begun = (v.links i h).begun; on_time = (v.links i h).on_time; on_way = λ g. early i h (record { begun = g.begun; not_ended = g.not_ended }) }

        sure' : (D : ℕ) → D < 2 ^ P.links → (x : ℕ) → x < P.points → Sure T r (pass s) D x (since (pass s) x)
        sure' D hD x hx = go (done? s x)
          where
            go : Dec (Executed s x) → Sure T r (pass s) D x (since (pass s) x)
            go (yes d) = rw (since_done (pass s) x d, ← (since_done s x d)) (v.sure D hD x hx)
            go (no n) = rw (since_not (pass s) x n) (next_second early none D hD x hx n)

  initial_holds : Invariant T r initial
  initial_holds = record {
    links = λ i h. record { begun = λ d. absurd (omega arith); on_time = λ d. absurd (omega arith); on_way = λ g. absurd (omega (arith, g.begun)) };
    sure = λ D hD x hx. start x hx (λ j k. inl refl) (omega arith);
    went = λ x hx ne d. absurd (omega arith);
  }

  -- after any number of steps
  pub holds : (m : ℕ) → Invariant T r (run P T prefer r m)
  unfolding run
  holds zero = initial_holds
  holds (suc m) = step_keeps (run P T prefer r m) (holds m) (next_state P T prefer r (run P T prefer r m)) (step_is T prefer r (run P T prefer r m))
