-- Histories: what stands alike in two dramas that differ only in what is not seen yet.
use mathlib.Core.Path.{◌≡◌, sym, ◌∙◌}
use mathlib.Core.Bool.{Bool}
use mathlib.Core.Logic.{inl, inr}
use Prim.Native.Nat.{ℕ, zero, suc, ◌≤◌, ◌<◌}
use native.Mathlib.Nat.{le_refl, mul-le-mul, mul-le-mul_left}
use native.Mathlib.Omega.{arith}
use Rattle.plan.specs.Plan.{Plan}
use Rattle.plan.proofs.Ranges.{WellFormed}
use Rattle.rules_panel.specs.Dramas.{Durations, Drama}
use Rattle.rules_panel.specs.Strategies.{Strategy, Observed, Ended, SameHistory, SamePlace, Panel}
use Rattle.rules_panel.proofs.Moments.{Ends, ends?, moment_at, lower_before, lower_up_to, moment, position_pos, same_sym, same_moment, sooner}

module _ {P : Plan} {E : Durations} (σ : Strategy P E) where
  -- the points that come before moment m, in either drama, stand alike
  pub record SameBefore (r u : Drama P E) (m : ℕ) : Type 0 where
    pub of_first : (x : ℕ) → x < P.points → moment σ r x < m → SamePlace σ r u x
    pub of_second : (x : ℕ) → x < P.points → moment σ u x < m → SamePlace σ r u x

  -- two dramas that differ, up to moment m, in nothing that is seen: in no answer that is learnt by then in both, and in no duration of a link that ends by then in one of
  -- them, where all that comes before its end stands alike
  pub record Alike (r u : Drama P E) (m : ℕ) : Type 0 where
    pub told : (j : ℕ) → j < P.propositions → SamePlace σ r u (P.observer j) → moment σ r (P.observer j) < m → r.scenario j ≡ u.scenario j
    pub took_first : (i : ℕ) → i < P.links → SameBefore r u (moment σ r (P.finish i)) → moment σ r (P.finish i) ≤ m → r.situation i ≡ u.situation i
    pub took_second : (i : ℕ) → i < P.links → SameBefore r u (moment σ u (P.finish i)) → moment σ u (P.finish i) ≤ m → r.situation i ≡ u.situation i

  module _ (r u : Drama P E) where
    before_swap : (m : ℕ) → SameBefore r u m → SameBefore u r m
    before_swap m s = record { of_first = λ x h k. same_sym σ r u x (s.of_second x h k); of_second = λ x h k. same_sym σ r u x (s.of_first x h k) }

    before_less : (m n : ℕ) → n ≤ m → SameBefore r u m → SameBefore r u n
    before_less m n l s = record { of_first = λ x h k. s.of_first x h (omega arith); of_second = λ x h k. s.of_second x h (omega arith) }

  alike_swap : (r u : Drama P E) (m : ℕ) → Alike r u m → Alike u r m
  alike_swap r u m a = record {
    told = λ j h s k. let t = same_sym σ u r (P.observer j) s in sym (a.told j h t (omega (arith, same_moment σ r u (P.observer j) t)));
    took_first = λ i h s k. sym (a.took_second i h (before_swap u r (moment σ u (P.finish i)) s) k);
    took_second = λ i h s k. sym (a.took_first i h (before_swap u r (moment σ r (P.finish i)) s) k);
  }

module _ {P : Plan} {E : Durations} {q : ℕ} (wf : WellFormed P) (some : 0 < q) (panel : Panel q P E) where
  abbrev σ : Strategy P E
  σ = panel.strategy

  -- an activation comes before its end
  pub starts_sooner : (r : Drama P E) (i : ℕ) → i < P.links → σ.time r (P.activation i) < σ.time r (P.finish i)
  starts_sooner r i h = omega (arith, panel.viable.keeps_link r i h, mul-le-mul some (wf.durations i h).0, mul-le-mul_left q (r.no_shorter i h))

  pub starts_before : (r : Drama P E) (i : ℕ) → i < P.links → moment σ r (P.activation i) < moment σ r (P.finish i)
  starts_before r i h = sooner σ r r (P.activation i) (P.finish i) (wf.activation_in i h) (starts_sooner r i h)

  end_up_to : (r u : Drama P E) (i : ℕ) → i < P.links → r.situation i ≤ u.situation i → SamePlace σ r u (P.activation i) → moment σ r (P.finish i) ≤ moment σ u (P.finish i)
  end_up_to r u i h l s =
      lower_up_to P (σ.time r (P.finish i)) (σ.time u (P.finish i)) (σ.position r (P.finish i)) (σ.position u (P.finish i))
      (omega (arith, panel.viable.keeps_link r i h, panel.viable.keeps_link u i h, s.same_time, mul-le-mul_left q l))
      (omega (arith, σ.end_first r i h))

  -- where no link is shorter in the second drama, its durations need no look
  pub alike : (r u : Drama P E) (m : ℕ) → ((j : ℕ) → j < P.propositions → moment σ r (P.observer j) < m → r.scenario j ≡ u.scenario j)
      → ((i : ℕ) → i < P.links → moment σ r (P.finish i) ≤ m → r.situation i ≡ u.situation i)
      → ((i : ℕ) → i < P.links → r.situation i ≤ u.situation i)
      → Alike σ r u m
  alike r u m told took longer = record {
    told = λ j h s. told j h;
    took_first = λ i h s. took i h;
    took_second = λ i h s k. took i h (omega (arith, end_up_to r u i h (longer i h) (s.of_second (P.activation i) (wf.activation_in i h) (starts_before u i h))));
  }

  -- ---- the histories of a moment agree where all that comes before it does
  module _ (t d m : ℕ) (behind_ends : 0 < d) (within : moment_at P t d ≤ m) where
    observed_too : (r u : Drama P E) → Alike σ r u m → SameBefore σ r u (moment_at P t d) → (j : ℕ) (b : Bool) → Observed σ t d r j b → Observed σ t d u j b
    observed_too r u a s j b o =
        let k = lower_before P (σ.time r (P.observer j)) t (σ.position r (P.observer j)) d o.by_then o.before in
        let p = s.of_first (P.observer j) (wf.observer_in j o.proposition).1 k in
        record {
          proposition = o.proposition;
          by_then = omega (arith, p.same_time, o.by_then);
          before = omega (arith, p.same_position, o.before);
          value = sym (a.told j o.proposition p (omega arith)) ∙ o.value;
        }

    ended_too : (r u : Drama P E) → SameBefore σ r u (moment_at P t d) → (i n : ℕ) → Ended σ t r i n → Ended σ t u i n
    ended_too r u s i n o =
        let k = lower_before P (σ.time r (P.finish i)) t (σ.position r (P.finish i)) d o.by_then (omega (arith, σ.end_first r i o.link)) in
        let c = s.of_first (P.finish i) (wf.finish_in i o.link).1 k in
        let a = s.of_first (P.activation i) (wf.activation_in i o.link) (omega (arith, starts_before r i o.link)) in
        record { link = o.link; by_then = omega (arith, c.same_time, o.by_then); took = omega (arith, c.same_time, a.same_time, o.took) }

    history : (r u : Drama P E) → Alike σ r u m → SameBefore σ r u (moment_at P t d) → SameHistory σ t d r u
    history r u a s =
        let b = alike_swap σ r u m a in
        let z = before_swap σ r u (moment_at P t d) s in
        record {
          observed = λ j c. (observed_too r u a s j c, observed_too u r b z j c);
          ended = λ i n. (ended_too r u s i n, ended_too u r z i n);
        }

  -- ---- one moment more
  -- the end of a link whose activation stands alike
  end_alike : (r u : Drama P E) (i : ℕ) → i < P.links → SamePlace σ r u (P.activation i) → r.situation i ≡ u.situation i → SamePlace σ r u (P.finish i)
  end_alike r u i l s e = record {
    same_time = panel.viable.keeps_link u i l ∙ rw (s.same_time, ← e) (sym (panel.viable.keeps_link r i l));
    same_position = σ.end_first u i l ∙ sym (σ.end_first r i l);
  }

  step : (r u : Drama P E) (m n : ℕ) → Alike σ r u m → n ≤ m → SameBefore σ r u n → (x : ℕ) → x < P.points → moment σ r x ≤ n → SamePlace σ r u x
  step r u m n a l s x h k = go (ends? P x)
    where
      go : Ends P x → SamePlace σ r u x
      go (inl e) =
          let i = e.number in
          let up_to : moment σ r (P.finish i) ≤ n = rw e.is k in
          let c = before_less σ r u n (moment σ r (P.finish i)) up_to s in
          rw e.is at (end_alike r u i e.under (c.of_first (P.activation i) (wf.activation_in i e.under) (starts_before r i e.under)) (a.took_first i e.under c (omega arith)))
      go (inr e) = panel.dynamic.reacts r u x h e (history (σ.time r x) (σ.position r x) m (position_pos σ r x h e) (omega arith) r u a (before_less σ r u n (moment σ r x) k s))

  module _ (r u : Drama P E) (m : ℕ) (a : Alike σ r u m) where
    before_moment : (n : ℕ) → n ≤ suc m → SameBefore σ r u n
    before_moment zero h = record { of_first = λ x l k. absurd (omega arith); of_second = λ x l k. absurd (omega arith) }
    before_moment (suc n) h =
        let s = before_moment n (omega arith) in
        record {
          of_first = λ x l k. step r u m n a (omega arith) s x l (omega arith);
          of_second = λ x l k. same_sym σ u r x (step u r m n (alike_swap σ r u m a) (omega arith) (before_swap σ r u n s) x l (omega arith));
        }

    -- what comes up to that moment, in either drama, stands alike in both
    pub same_first : (x : ℕ) → x < P.points → moment σ r x ≤ m → SamePlace σ r u x
    same_first x l k = (before_moment (suc m) (le_refl (suc m))).of_first x l (omega arith)

    pub same_second : (x : ℕ) → x < P.points → moment σ u x ≤ m → SamePlace σ r u x
    same_second x l k = (before_moment (suc m) (le_refl (suc m))).of_second x l (omega arith)
