-- A plan whose first alarm waits for itself has no panel.
use mathlib.Core.Path.{◌≡◌, refl, ap, subst, ◌∙◌}
use mathlib.Core.Bool.{true}
use mathlib.Core.Logic.{inl, inr}
use Prim.Native.Nat.{ℕ, ◌<◌}
use native.Mathlib.Nat.{le_refl, mul-le-mul}
use native.Mathlib.Omega.{arith}
use Rattle.plan.specs.Plan.{Plan}
use Rattle.plan.proofs.Digits.{plain_known}
use Rattle.plan.proofs.Ranges.{WellFormed}
use Rattle.rules.specs.declared.Line.{Line}
use Rattle.rules.specs.Derivations.{Parent, Given, SelfWait}
use Rattle.rules.proofs.Deriving.{no_wait, given_fires, reached_all}
use Rattle.rules.proofs.InRange.{InRange, range, given_above}
use Rattle.rules_panel.specs.Dramas.{LeastOrMost, Drama}
use Rattle.rules_panel.specs.Strategies.{Panel, NoPanel}
use Rattle.rules_panel.proofs.Dramas.{put_in, put_true}
use Rattle.rules_panel.proofs.LineMeaning.{Holds}
use Rattle.rules_panel.proofs.RuleSoundness.{InHorizon, sound}
use Rattle.rules_panel.proofs.Horizon.{in_horizon}

module _ {P : Plan} {q : ℕ} (wf : WellFormed P) (some : 0 < q) (panel : Panel q P (LeastOrMost P)) (within : InHorizon panel.strategy q) where
  -- what is true of every derived line
  record Derived (l : Line) : Type 0 where
    inside : InRange P l
    above : 0 < l.wait
    holds : Holds panel.strategy q l

  parent_holds : {l : Line} → Parent P Derived l → Holds panel.strategy q l
  parent_holds (inl s) = record { waits = λ r h. rw (no_wait s) (omega arith) }
  parent_holds (inr d) = d.holds

  parent_in : {l : Line} → Parent P Derived l → l.point < P.points
  parent_in (inl s) = s.inside
  parent_in (inr d) = d.inside.point_in

  step : (k : Line) → Given P Derived k → Derived k
  step k g = record {
    inside = range P wf (λ l d. d.inside) g;
    above = given_above P wf Derived (λ l d. d.above) g;
    holds = subst (Holds panel.strategy q) g.gave (sound wf some panel within g.rule g.row g.first g.second (parent_holds g.first_is) (parent_in g.first_is) (parent_holds g.second_is) (parent_in g.second_is) (given_fires g));
  }

  -- the drama in which a label is true and every link takes its most
  longest : ℕ → Drama P (LeastOrMost P)
  longest label = record { scenario = put_in label (λ _. true); situation = P.most; no_shorter = λ i h. omega (arith, wf.durations i h); no_longer = λ i h. le_refl _; looked_at = λ i h. inr refl }

  -- the first alarm would come later than at 0 there
  no_self_wait : SelfWait P → ⊥
  unfolding longest
  no_self_wait s =
      let l = s.by.line in
      let d = reached_all P Derived step l (record { lines = s.lines; derives = s.derives; among = s.by.among }) in
      let r = longest l.label in
      let a = d.holds.waits r (record { label_true = put_true P l.label (λ _. true); set_longest = λ i k c. refl; none_told = λ j k e c. plain_known P.propositions l.label j s.by.is_plain k e }) in
      let t : panel.strategy.time r l.point ≡ 0 = ap (panel.strategy.time r) s.by.first_alarm ∙ panel.viable.first_at_start r in
      omega (arith, mul-le-mul some d.above)

-- the theorem (15.6): so no panel keeps the plan
pub no_panel : (P : Plan) → WellFormed P → SelfWait P → NoPanel P
no_panel P wf s = record { none = λ q some panel. let c = in_horizon wf some panel in no_self_wait wf some c.panel c.within s }
