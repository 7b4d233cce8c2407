-- Each of the six rules is sound: what it gives from lines that hold of a panel holds of it.
use mathlib.Core.Path.{◌≡◌, refl, sym, ap, subst, ◌∙◌}
use mathlib.Core.Logic.{◌⊎◌, inl, inr}
use Prim.Native.Nat.{ℕ, ◌+◌, ◌-◌, ◌*◌, ◌≤◌, ◌<◌, min}
use native.Mathlib.Nat.{le_refl, le_trans, min-le_left, min-le_right, mul-le-mul_left}
use native.Mathlib.Decide.{dec_le, dec_lt}
use native.Mathlib.Omega.{arith}
use lib.Dec.{T as Is, T_not}
use Rattle.plan.specs.Label.{digit, join, plain, clear_digit}
use Rattle.plan.specs.LinkSet.{contains, remove}
use Rattle.plan.specs.Plan.{Plan}
use Rattle.plan.proofs.Digits.{Carries, clear_other, join_left, join_right, plain_known, in_left, in_right, in_added, in_insert, in_remove}
use Rattle.plan.proofs.Ranges.{WellFormed}
use Rattle.rules.specs.declared.Line.{Line}
use Rattle.rules.specs.declared.Edge.{Edge}
use Rattle.rules.specs.declared.Edge.TheVariants.{PlanEdge, HorizonEdge, UpperBound, LowerBound}
use Rattle.rules.specs.declared.Rule.{Rule}
use Rattle.rules.specs.declared.Rule.TheVariants.{Propagation, LowerCase, UpperCase, LetterRemoval, OwnLiteral, LiteralRemoval}
use Rattle.rules.specs.Rules.{constraint_of, less_weight, result}
use Rattle.rules.specs.Derivations.{InPlan}
use Rattle.rules.proofs.Deriving.{Fires}
use Rattle.rules_panel.specs.Dramas.{Durations, LeastOrMost, Drama, True}
use Rattle.rules_panel.specs.Strategies.{Strategy, Panel}
use Rattle.rules_panel.proofs.Dramas.{changed_at, changed_off, changed_in, with_link, true_of}
use Rattle.rules_panel.proofs.Moments.{moment, sooner, up_to_time}
use Rattle.rules_panel.proofs.Histories.{Alike, alike, starts_sooner, starts_before, same_first}
use Rattle.rules_panel.proofs.LineMeaning.{Longest, SpeaksOf, Holds, compare}

-- every point comes within the horizon
pub record InHorizon {P : Plan} {E : Durations} (σ : Strategy P E) (q : ℕ) : Type 0 where
  pub ends_in : (r : Drama P E) (x : ℕ) → x < P.points → σ.time r x ≤ q * P.horizon

-- ---- ticks
-- u seconds less on both sides
less_ticks : (q a u t : ℕ) → q * a ≤ t + q * u → q * (a - u) ≤ t
less_ticks q a u t h = go (dec_le u a)
  where
    go : Dec (u ≤ a) → q * (a - u) ≤ t
    go (yes l) = let e : a ≡ (a - u) + u = omega arith in let f : q * a ≡ q * ((a - u) + u) = ap (λ (x : ℕ). q * x) e in omega arith
    go (no l) = let e : a - u ≡ 0 = omega arith in rw e (omega arith)

min_ticks : (q a b t : ℕ) → (q * a ≤ t) ⊎ (q * b ≤ t) → q * min a b ≤ t
min_ticks q a b t (inl h) = le_trans (mul-le-mul_left q (min-le_left a b)) h
min_ticks q a b t (inr h) = le_trans (mul-le-mul_left q (min-le_right a b)) h

module _ {P : Plan} {q : ℕ} (wf : WellFormed P) (some : 0 < q) (panel : Panel q P (LeastOrMost P)) (within : InHorizon panel.strategy q) where
  abbrev σ : Strategy P (LeastOrMost P)
  σ = panel.strategy

  -- a line with a plain label speaks of every drama in which its label is true and its links take their most
  plain_speaks : (l : Line) (r : Drama P (LeastOrMost P)) → Is (plain P.propositions l.label) → True P r.scenario l.label → Longest r l.set → SpeaksOf σ l r
  plain_speaks l r p t s = record { label_true = t; set_longest = s; none_told = λ j h e k. plain_known P.propositions l.label j p h e }

  -- ---- 6.1
  edge_kept : (e : Edge) → InPlan P (Propagation e) → (r : Drama P (LeastOrMost P)) → True P r.scenario (constraint_of P e).label → (w : ℕ) → q * w ≤ σ.time r (constraint_of P e).to → q * less_weight (constraint_of P e) w ≤ σ.time r (constraint_of P e).from
  edge_kept (PlanEdge i) h r t w k = less_ticks q (w + P.down i) (P.up i) (σ.time r (P.from i)) (omega (arith, panel.viable.keeps_edge r i h t))
  edge_kept (HorizonEdge x) h r t w k = less_ticks q (w + 0) P.horizon (σ.time r 0) (omega (arith, panel.viable.first_at_start r, within.ends_in r x h.1))
  edge_kept (UpperBound i) h r t w k = less_ticks q (w + 0) (P.most i) (σ.time r (P.activation i)) (omega (arith, panel.viable.keeps_link r i h, mul-le-mul_left q (r.no_longer i h)))
  edge_kept (LowerBound i) h r t w k = less_ticks q (w + P.least i) 0 (σ.time r (P.finish i)) (omega (arith, panel.viable.keeps_link r i h, mul-le-mul_left q (r.no_shorter i h)))

  propagation : (e : Edge) → InPlan P (Propagation e) → (l m : Line) → Holds σ q l → Fires P (Propagation e) l m → Holds σ q (result P (Propagation e) l m)
  propagation e h l m a f = record { waits = go }
    where
      J : ℕ
      J = join P.propositions (constraint_of P e).label l.label

      go : (r : Drama P (LeastOrMost P)) → SpeaksOf σ (result P (Propagation e) l m) r → q * less_weight (constraint_of P e) l.wait ≤ σ.time r (constraint_of P e).from
      go r s =
          let of_edge = true_of P r.scenario (constraint_of P e).label J s.label_true f.2 (join_left P.propositions (constraint_of P e).label l.label) in
          let of_line = true_of P r.scenario l.label J s.label_true f.2 (join_right P.propositions (constraint_of P e).label l.label) in
          edge_kept e h r of_edge l.wait (rw f.0 at (a.waits r (plain_speaks l r f.1 of_line s.set_longest)))

  -- ---- 6.2
  lower : (i : ℕ) → i < P.links → (l m : Line) → Holds σ q l → Fires P (LowerCase i) l m → Holds σ q (result P (LowerCase i) l m)
  lower i h l m a f = record { waits = go }
    where
      go : (r : Drama P (LeastOrMost P)) → SpeaksOf σ (result P (LowerCase i) l m) r → q * (l.wait - P.least i) ≤ σ.time r (P.activation i)
      go r s =
          let b : q * l.wait ≤ σ.time u (P.finish i) = rw f.0 at (a.waits u (plain_speaks l u f.2 s.label_true longest)) in
          let g : σ.time u (P.finish i) ≡ σ.time u (P.activation i) + q * P.least i = panel.viable.keeps_link u i h ∙ ap (λ (n : ℕ). σ.time u (P.activation i) + q * n) (changed_at i (P.least i) r.situation i refl) in
          let n = (same_first wf some panel u r (moment σ u (P.activation i)) like (P.activation i) (wf.activation_in i h) (le_refl _)).same_time in
          rw n (less_ticks q l.wait (P.least i) (σ.time u (P.activation i)) (omega arith))
        where
          -- the same with the link at its least
          u : Drama P (LeastOrMost P)
          u = with_link r i (P.least i) (le_refl _) (omega (arith, wf.durations i h)) (inl refl)

          longest : Longest u l.set
          longest k hk c = changed_off i (P.least i) r.situation k (λ e. T_not (contains l.set i) f.1 (rw e at c)) ∙ s.set_longest k hk c

          took : (k : ℕ) → k < P.links → moment σ u (P.finish k) ≤ moment σ u (P.activation i) → u.situation k ≡ r.situation k
          took k hk c = changed_off i (P.least i) r.situation k (λ e. let d = ap (λ (z : ℕ). moment σ u (P.finish z)) e in omega (arith, starts_before wf some panel u i h))

          longer : (k : ℕ) → k < P.links → u.situation k ≤ r.situation k
          longer k hk = changed_in i (P.least i) r.situation k (λ x y. y ≤ r.situation x) (r.no_shorter i h) (λ _. le_refl _)

          like : Alike σ u r (moment σ u (P.activation i))
          like = alike wf some panel u r (moment σ u (P.activation i)) (λ j hj k. refl) took longer

  -- ---- 6.3
  upper : (i : ℕ) → i < P.links → (l m : Line) → Holds σ q l → Fires P (UpperCase i) l m → Holds σ q (result P (UpperCase i) l m)
  upper i h l m a f = record { waits = go }
    where
      go : (r : Drama P (LeastOrMost P)) → SpeaksOf σ (result P (UpperCase i) l m) r → q * (l.wait + P.most i) ≤ σ.time r (P.finish i)
      go r s =
          let b : q * l.wait ≤ σ.time r (P.activation i) = rw f.0 at (a.waits r (plain_speaks l r f.1 s.label_true (λ k hk c. s.set_longest k hk (in_insert l.set i k c)))) in
          let e : q * r.situation i ≡ q * P.most i = ap (λ (n : ℕ). q * n) (s.set_longest i h (in_added l.set i)) in
          omega (arith, panel.viable.keeps_link r i h)

  -- ---- 6.4
  letter : (i : ℕ) → i < P.links → (l m : Line) → Holds σ q l → l.point < P.points → Holds σ q m → m.point < P.points → Fires P (LetterRemoval i) l m → Holds σ q (result P (LetterRemoval i) l m)
  letter i h l m a al b bl f = record { waits = λ r s. min_ticks q l.wait (m.wait + P.least i) (σ.time r l.point) (go r s (dec_le (σ.time r (P.finish i)) (σ.time r l.point))) }
    where
      k : Line
      k = result P (LetterRemoval i) l m

      go : (r : Drama P (LeastOrMost P)) → SpeaksOf σ k r → Dec (σ.time r (P.finish i) ≤ σ.time r l.point) → (q * l.wait ≤ σ.time r l.point) ⊎ (q * (m.wait + P.least i) ≤ σ.time r l.point)
      go r s (yes e) =
          let starts = starts_sooner wf some panel r i h in
          let n : moment σ r m.point < moment σ r l.point = rw f.1 (sooner σ r r (P.activation i) l.point (wf.activation_in i h) (omega arith)) in
          let longest : Longest r m.set = λ j hj z. s.set_longest j hj (in_right (remove l.set i) m.set j z) in
          let d : q * m.wait ≤ σ.time r (P.activation i) = rw f.1 at (compare wf some panel m k b bl r s (omega arith) (λ j hj c. join_right P.propositions l.label m.label j hj) r longest (λ j hj z. refl) (λ j hj. le_refl _)) in
          inr (omega (arith, panel.viable.keeps_link r i h, mul-le-mul_left q (r.no_shorter i h)))
      go r s (no e) = inl (compare wf some panel l k a al r s (le_refl _) (λ j hj c. join_left P.propositions l.label m.label j hj) w longest took longer)
        where
          -- the same with the link at its most
          w : Drama P (LeastOrMost P)
          w = with_link r i (P.most i) (omega (arith, wf.durations i h)) (le_refl _) (inr refl)

          longest : Longest w l.set
          longest j hj c = changed_in i (P.most i) r.situation j (λ x y. y ≡ P.most x) refl (λ n. s.set_longest j hj (in_left (remove l.set i) m.set j (in_remove l.set i j n c)))

          took : (j : ℕ) → j < P.links → moment σ r (P.finish j) ≤ moment σ r l.point → r.situation j ≡ w.situation j
          took j hj c = sym (changed_off i (P.most i) r.situation j (λ n. e (subst (λ (z : ℕ). σ.time r (P.finish z) ≤ σ.time r l.point) n (up_to_time σ r r (P.finish j) l.point al c))))

          longer : (j : ℕ) → j < P.links → r.situation j ≤ w.situation j
          longer j hj = changed_in i (P.most i) r.situation j (λ x y. r.situation x ≤ y) (r.no_longer i h) (λ n. le_refl _)

  -- ---- 6.5
  own : (j : ℕ) → j < P.propositions → (l m : Line) → Holds σ q l → l.point < P.points → Fires P (OwnLiteral j) l m → Holds σ q (result P (OwnLiteral j) l m)
  own j h l m a al f = record { waits = λ r s. compare wf some panel l (result P (OwnLiteral j) l m) a al r s (le_refl _) (carried r) r s.set_longest (λ i hi z. refl) (λ i hi. le_refl _) }
    where
      -- the observing point does not come before itself
      carried : (r : Drama P (LeastOrMost P)) (i : ℕ) → i < P.propositions → moment σ r (P.observer i) < moment σ r l.point → Carries (digit l.label i) (digit (clear_digit l.label j) i)
      carried r i hi c = inr (inl (clear_other l.label j i (λ e. let d = ap (moment σ r) (ap P.observer e ∙ sym f.0) in omega arith)))

  -- ---- 6.6
  literal : (j : ℕ) → j < P.propositions → (l m : Line) → Holds σ q l → l.point < P.points → Holds σ q m → m.point < P.points → Fires P (LiteralRemoval j) l m → Holds σ q (result P (LiteralRemoval j) l m)
  literal j h l m a al b bl f = record { waits = λ r s. min_ticks q l.wait m.wait (σ.time r l.point) (go r s (dec_lt (moment σ r m.point) (moment σ r l.point))) }
    where
      k : Line
      k = result P (LiteralRemoval j) l m

      go : (r : Drama P (LeastOrMost P)) → SpeaksOf σ k r → Dec (moment σ r m.point < moment σ r l.point) → (q * l.wait ≤ σ.time r l.point) ⊎ (q * m.wait ≤ σ.time r l.point)
      go r s (yes e) =
          let longest : Longest r m.set = λ i hi z. s.set_longest i hi (in_right l.set m.set i z) in
          let d = compare wf some panel m k b bl r s (omega arith) (λ i hi c. join_right P.propositions (clear_digit l.label j) m.label i hi) r longest (λ i hi z. refl) (λ i hi. le_refl _) in
          inr (omega (arith, up_to_time σ r r m.point l.point al (omega arith)))
      go r s (no e) = inl (compare wf some panel l k a al r s (le_refl _) carried r (λ i hi z. s.set_longest i hi (in_left l.set m.set i z)) (λ i hi z. refl) (λ i hi. le_refl _))
        where
          carried : (i : ℕ) → i < P.propositions → moment σ r (P.observer i) < moment σ r l.point → Carries (digit l.label i) (digit k.label i)
          carried i hi c =
              let n : i ≡ j → ⊥ = λ x. let d = ap (moment σ r) (ap P.observer x ∙ sym f.1) in e (omega arith) in
              rw (clear_other l.label j i n) at (join_left P.propositions (clear_digit l.label j) m.label i hi)

  -- whatever rule it is
  pub sound : (r : Rule) → InPlan P r → (l m : Line) → Holds σ q l → l.point < P.points → Holds σ q m → m.point < P.points → Fires P r l m → Holds σ q (result P r l m)
  sound (Propagation e) h l m a al b bl f = propagation e h l m a f
  sound (LowerCase i) h l m a al b bl f = lower i h l m a f
  sound (UpperCase i) h l m a al b bl f = upper i h l m a f
  sound (LetterRemoval i) h l m a al b bl f = letter i h l m a al b bl f
  sound (OwnLiteral j) h l m a al b bl f = own j h l m a al f
  sound (LiteralRemoval j) h l m a al b bl f = literal j h l m a al b bl f
