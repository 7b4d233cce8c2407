-- What a line says of a panel (5.1; the source's Definition 19), and the comparison of two dramas that rules 4 to 6 rest on.
use mathlib.Core.Path.{◌≡◌, ◌∙◌}
use mathlib.Core.Logic.{inl, inr}
use Prim.Native.Nat.{ℕ, ◌*◌, ◌≤◌, ◌<◌}
use native.Mathlib.Omega.{arith}
use lib.Dec.{T as Is}
use Rattle.plan.specs.Label.{digit}
use Rattle.plan.specs.LinkSet.{contains}
use Rattle.plan.specs.Plan.{Plan}
use Rattle.plan.proofs.Digits.{digit_lt, Carries}
use Rattle.plan.proofs.Ranges.{WellFormed}
use Rattle.rules.specs.declared.Line.{Line}
use Rattle.rules_panel.specs.Dramas.{Durations, Drama, True}
use Rattle.rules_panel.specs.Strategies.{Strategy, SamePlace, Panel}
use Rattle.rules_panel.proofs.Dramas.{put_in, put_true, valued_same}
use Rattle.rules_panel.proofs.Moments.{moment, same_moment}
use Rattle.rules_panel.proofs.Histories.{Alike, alike, same_first, same_second}

module _ {P : Plan} {E : Durations} where
  -- each link of the set takes its most
  abbrev pub Longest : Drama P E → ℕ → Type 0
  Longest r set = (i : ℕ) → i < P.links → Is (contains set i) → r.situation i ≡ P.most i

module _ {P : Plan} {E : Durations} (σ : Strategy P E) where
  -- the line speaks of the drama: its label is true there, its links take their most, and what it calls unknown is not learnt before its point
  pub record SpeaksOf (l : Line) (r : Drama P E) : Type 0 where
    pub label_true : True P r.scenario l.label
    pub set_longest : Longest r l.set
    pub none_told : (j : ℕ) → j < P.propositions → digit l.label j ≡ 3 → moment σ r (P.observer j) < moment σ r l.point → ⊥

  -- in each of these dramas its point waits
  pub record Holds (q : ℕ) (l : Line) : Type 0 where
    pub waits : (r : Drama P E) → SpeaksOf l r → q * l.wait ≤ σ.time r l.point

module _ {P : Plan} {E : Durations} {q : ℕ} (wf : WellFormed P) (some : 0 < q) (panel : Panel q P E) where
  abbrev σ : Strategy P E
  σ = panel.strategy

  -- line l holds, and k speaks of drama r. In the drama w, where l's links take their most, and with l's answers put in, nothing differs that is seen before k's point: so l's
  -- point, no later than k's, waits in r too.
  pub compare : (l k : Line) → Holds σ q l → l.point < P.points → (r : Drama P E) → SpeaksOf σ k r → moment σ r l.point ≤ moment σ r k.point
      → ((j : ℕ) → j < P.propositions → moment σ r (P.observer j) < moment σ r k.point → Carries (digit l.label j) (digit k.label j))
      → (w : Drama P E) → Longest w l.set
      → ((i : ℕ) → i < P.links → moment σ r (P.finish i) ≤ moment σ r k.point → r.situation i ≡ w.situation i)
      → ((i : ℕ) → i < P.links → r.situation i ≤ w.situation i)
      → q * l.wait ≤ σ.time r l.point
  compare l k holds inside r speaks near carried w longest took longer = omega (arith, here.same_time, holds.waits u (record { label_true = put_true P l.label r.scenario; set_longest = longest; none_told = none_told }))
    where
      m : ℕ
      m = moment σ r k.point

      u : Drama P E
      u = record { scenario = put_in l.label r.scenario; situation = w.situation; no_shorter = w.no_shorter; no_longer = w.no_longer; looked_at = w.looked_at }

      told : (j : ℕ) → j < P.propositions → moment σ r (P.observer j) < m → r.scenario j ≡ u.scenario j
      told j h b = go (carried j h b)
        where
          go : Carries (digit l.label j) (digit k.label j) → r.scenario j ≡ u.scenario j
          go (inl z) = valued_same (digit l.label j) (digit_lt l.label j) (r.scenario j) (λ e. absurd (omega arith)) (λ e. absurd (omega arith))
          go (inr (inl z)) = valued_same (digit l.label j) (digit_lt l.label j) (r.scenario j) (λ e. speaks.label_true.is_yes j h (z ∙ e)) (λ e. speaks.label_true.is_no j h (z ∙ e))
          go (inr (inr z)) = absurd (speaks.none_told j h z b)

      like : Alike σ r u m
      like = alike wf some panel r u m told took longer

      here : SamePlace σ r u l.point
      here = same_first wf some panel r u m like l.point inside near

      none_told : (j : ℕ) → j < P.propositions → digit l.label j ≡ 3 → moment σ u (P.observer j) < moment σ u l.point → ⊥
      none_told j h e b = go (carried j h before) before
        where
          before : moment σ r (P.observer j) < m
          before =
              let a = same_moment σ r u l.point here in
              let t = same_second wf some panel r u m like (P.observer j) (wf.observer_in j h).1 (omega arith) in
              omega (arith, same_moment σ r u (P.observer j) t)

          go : Carries (digit l.label j) (digit k.label j) → moment σ r (P.observer j) < m → ⊥
          go (inl z) b = omega arith
          go (inr (inl z)) b = speaks.none_told j h (z ∙ e) b
          go (inr (inr z)) b = speaks.none_told j h z b
