-- The horizon costs nothing: a panel that ends late gives one that ends within the horizon. A pause of more than M seconds, in which nothing happens, is cut to M, and
-- positions follow the order of the moments.
use mathlib.Core.Path.{◌≡◌, refl, sym, ap, subst, ◌∙◌}
use Prim.Native.Nat.{ℕ, ◌+◌, ◌-◌, ◌*◌, ◌/◌, ◌≤◌, ◌<◌}
use native.Mathlib.Nat.{mul-le-mul_left, mul-div_cancel_left, le_antisymm, le_trans}
use native.Mathlib.Decide.{dec_le}
use native.Mathlib.Omega.{arith}
use lib.Dec.{T as Is, ltb, ltb→lt, lt→ltb}
use Rattle.plan.specs.Plan.{Plan}
use Rattle.plan.proofs.Ranges.{WellFormed}
use Rattle.plan.proofs.Truth.{same_test}
use Rattle.rules_panel.specs.Dramas.{Durations, Drama, True}
use Rattle.rules_panel.specs.Positions.{position_by}
use Rattle.rules_panel.specs.Strategies.{NoEnd, Strategy, Viable, SameHistory, SamePlace, Dynamic, Panel}
use Rattle.rules_panel.proofs.Counts.{count, count_le, count_zero, count_more, count_few, count_each, From, Near, near?, count_near}
use Rattle.rules_panel.proofs.Moments.{moment, same_moment, sooner, up_to_time, one_position}
use Rattle.rules_panel.proofs.Positions.{position_end, position_other, position_from, position_to, position_lower, position_distinct, position_same}
use Rattle.rules_panel.proofs.Histories.{Alike, same_first, same_second}
use Rattle.rules_panel.proofs.RuleSoundness.{InHorizon}

module _ {P : Plan} {E : Durations} {q : ℕ} (wf : WellFormed P) (some : 0 < q) (panel : Panel q P E) where
  abbrev σ : Strategy P E
  σ = panel.strategy

  -- ---- times
  -- a tick that follows some point within M
  abbrev NearPoint : Drama P E → ℕ → Type 0
  NearPoint r = Near (σ.time r) (q * P.largest) P.points

  near_point? : (r : Drama P E) (s : ℕ) → Dec (NearPoint r s)
  near_point? r = near? (σ.time r) (q * P.largest) P.points

  -- a time with the pauses before it cut
  cut_time : Drama P E → ℕ → ℕ
  cut_time r t = count (NearPoint r) (near_point? r) t

  cut_mono : (r : Drama P E) (s t : ℕ) → s ≤ t → cut_time r s ≤ cut_time r t
  unfolding cut_time
  cut_mono r s t h = let e : s + (t - s) ≡ t = omega arith in subst (λ (k : ℕ). count (NearPoint r) (near_point? r) s ≤ count (NearPoint r) (near_point? r) k) e (count_more (NearPoint r) (near_point? r) s (t - s))

  cut_few : (r : Drama P E) (s d : ℕ) → cut_time r (s + d) ≤ cut_time r s + d
  unfolding cut_time
  cut_few r = count_few (NearPoint r) (near_point? r)

  -- no pause is cut within M of a point
  cut_near : (r : Drama P E) (x : ℕ) → x < P.points → (d : ℕ) → d ≤ q * P.largest → cut_time r (σ.time r x + d) ≡ cut_time r (σ.time r x) + d
  unfolding cut_time
  cut_near r x h d l = count_each (NearPoint r) (near_point? r) (σ.time r x) d (λ s a b. record { number = x; under = h; holds = (a, omega arith) })

  -- the ticks near n points are n times M at most
  cut_end : (r : Drama P E) (t : ℕ) → cut_time r t ≤ P.points * (q * P.largest)
  unfolding cut_time near_point?
  cut_end r = count_near (σ.time r) (q * P.largest) P.points

  -- what comes at one time in both dramas up to a time is near in both
  cut_alike : (r u : Drama P E) (t : ℕ) → ((x : ℕ) → x < P.points → σ.time r x < t → σ.time u x ≡ σ.time r x) → cut_time r t ≤ cut_time u t
  unfolding cut_time
  cut_alike r u t f = count_le (NearPoint r) (NearPoint u) (near_point? r) (near_point? u) t (λ s h n. record { number = n.number; under = n.under; holds = subst (λ (k : ℕ). From k (q * P.largest) s) (sym (f n.number n.under (omega (arith, n.holds)))) n.holds })

  keeps_links : (r : Drama P E) (i : ℕ) → i < P.links → cut_time r (σ.time r (P.finish i)) ≡ cut_time r (σ.time r (P.activation i)) + q * r.situation i
  keeps_links r i h = ap (cut_time r) (panel.viable.keeps_link r i h) ∙ cut_near r (P.activation i) (wf.activation_in i h) (q * r.situation i) (mul-le-mul_left q (le_trans (r.no_longer i h) (wf.most_le i h)))

  keeps_edges : (r : Drama P E) (i : ℕ) → i < P.edges → True P r.scenario (P.label i) → cut_time r (σ.time r (P.to i)) + q * P.down i ≤ cut_time r (σ.time r (P.from i)) + q * P.up i
  keeps_edges r i h t = go (dec_le (q * P.down i) (q * P.up i)) (dec_le Y X)
    where
      X : ℕ
      X = σ.time r (P.from i)

      Y : ℕ
      Y = σ.time r (P.to i)

      kept : Y + q * P.down i ≤ X + q * P.up i
      kept = panel.viable.keeps_edge r i h t

      go : Dec (q * P.down i ≤ q * P.up i) → Dec (Y ≤ X) → cut_time r Y + q * P.down i ≤ cut_time r X + q * P.up i
      go (yes a) (yes b) = omega (arith, cut_mono r Y X b)
      go (yes a) (no b) =
          let e : X + (Y - X) ≡ Y = omega arith in
          let f : cut_time r Y ≤ cut_time r X + (Y - X) = subst (λ (k : ℕ). cut_time r k ≤ cut_time r X + (Y - X)) e (cut_few r X (Y - X)) in
          omega (arith, kept)
      go (no a) b =
          let d : ℕ = q * P.down i - q * P.up i in
          let k = kept in
          let e = cut_near r (P.to i) (wf.to_in i h) d (omega (arith, mul-le-mul_left q (wf.down_le i h))) in
          omega (arith, cut_mono r (Y + d) X (omega arith))

  -- ---- positions: in the order of the moments
  abbrev cut_position : Drama P E → ℕ → ℕ
  cut_position r x = position_by P (moment σ r) x

  -- no two observing points come at one moment
  apart : (r : Drama P E) (i j : ℕ) → i < P.propositions → j < P.propositions → moment σ r (P.observer i) ≡ moment σ r (P.observer j) → i ≡ j
  apart r i j h k e = σ.distinct r i j h k (one_position σ r r (P.observer i) (P.observer j) (wf.observer_in i h).1 (wf.observer_in j k).1 e)

  -- ---- the panel with its pauses cut
  cut : Strategy P E
  cut = record {
    time = λ r x. cut_time r (σ.time r x);
    position = cut_position;
    end_first = λ r. position_end wf (moment σ r);
    observing_from = λ r. position_from wf (moment σ r);
    observing_to = λ r. position_to wf (moment σ r);
    distinct = λ r i j h k. position_distinct wf (moment σ r) i j h k (apart r i j h k);
    other_last = λ r x h. position_other wf (moment σ r) x;
  }

  cut_viable : Viable cut q
  unfolding cut cut_time
  cut_viable = record {
    first_at_start = λ r. ap (cut_time r) (panel.viable.first_at_start r) ∙ count_zero (NearPoint r) (near_point? r);
    keeps_edge = keeps_edges;
    keeps_link = keeps_links;
  }

  cut_in_horizon : InHorizon cut q
  unfolding cut
  cut_in_horizon = record { ends_in = λ r x l. omega (arith, cut_end r (σ.time r x), mul-le-mul_left q wf.horizon_far) }

  same_ticks : (a m n : ℕ) → a + q * m ≡ a + q * n → m ≡ n
  same_ticks a m n e = let f : q * m ≡ q * n = omega arith in sym (mul-div_cancel_left m some) ∙ ap (λ (z : ℕ). z / q) f ∙ mul-div_cancel_left n some

  -- ---- it reacts to what it has seen
  module _ (r u : Drama P E) (x : ℕ) (inside : x < P.points) (n : NoEnd P x) (s : SameHistory cut (cut_time r (σ.time r x)) (cut_position r x) r u) where
    -- a link that ends by then in one drama takes as long in the other
    took_first : (i : ℕ) → i < P.links → cut_time r (σ.time r (P.finish i)) ≤ cut_time r (σ.time r x) → r.situation i ≡ u.situation i
    unfolding cut
    took_first i h k =
        let e = ((s.ended i (q * r.situation i)).0 (record { link = h; by_then = k; took = keeps_links r i h })).took in
        same_ticks (cut_time u (σ.time u (P.activation i))) (r.situation i) (u.situation i) (sym e ∙ keeps_links u i h)

    took_second : (i : ℕ) → i < P.links → cut_time u (σ.time u (P.finish i)) ≤ cut_time r (σ.time r x) → r.situation i ≡ u.situation i
    unfolding cut
    took_second i h k =
        let e = ((s.ended i (q * u.situation i)).1 (record { link = h; by_then = k; took = keeps_links u i h })).took in
        same_ticks (cut_time r (σ.time r (P.activation i))) (r.situation i) (u.situation i) (sym (keeps_links r i h) ∙ e)

    told : (j : ℕ) → j < P.propositions → moment σ r (P.observer j) < moment σ r x → r.scenario j ≡ u.scenario j
    unfolding cut
    told j h k =
        let t = up_to_time σ r r (P.observer j) x inside (omega arith) in
        sym ((s.observed j (r.scenario j)).0 (record { proposition = h; by_then = cut_mono r (σ.time r (P.observer j)) (σ.time r x) t; before = position_lower wf (moment σ r) j x h n k; value = refl })).value

    like : Alike σ r u (moment σ r x)
    like = record {
      told = λ j h _. told j h;
      took_first = λ i h _ k. took_first i h (cut_mono r (σ.time r (P.finish i)) (σ.time r x) (up_to_time σ r r (P.finish i) x inside k));
      took_second = λ i h all k.
          let t = cut_mono r (σ.time u (P.finish i)) (σ.time r x) (up_to_time σ u r (P.finish i) x inside k) in
          let a = cut_alike u r (σ.time u (P.finish i)) (λ y b c. sym (all.of_second y b (sooner σ u u y (P.finish i) b c)).same_time) in
          took_second i h (omega arith);
    }

    of_first : (y : ℕ) → y < P.points → moment σ r y ≤ moment σ r x → SamePlace σ r u y
    of_first = same_first wf some panel r u (moment σ r x) like

    of_second : (y : ℕ) → y < P.points → moment σ u y ≤ moment σ r x → SamePlace σ r u y
    of_second = same_second wf some panel r u (moment σ r x) like

    here : SamePlace σ r u x
    here = of_first x inside (omega arith)

    same_time : cut_time u (σ.time u x) ≡ cut_time r (σ.time r x)
    same_time =
        ap (cut_time u) here.same_time
        ∙ le_antisymm
        (cut_alike u r (σ.time r x) (λ y l k. sym (of_second y l (omega (arith, sooner σ u r y x l k))).same_time))
        (cut_alike r u (σ.time r x) (λ y l k. (of_first y l (omega (arith, sooner σ r r y x l k))).same_time))

    same_before : (j : ℕ) → j < P.propositions → ltb (moment σ u (P.observer j)) (moment σ u x) ≡ ltb (moment σ r (P.observer j)) (moment σ r x)
    same_before j h = same_test (ltb (moment σ u (P.observer j)) (moment σ u x)) (ltb (moment σ r (P.observer j)) (moment σ r x)) to from
      where
        inside_j : P.observer j < P.points
        inside_j = (wf.observer_in j h).1

        e : moment σ u x ≡ moment σ r x
        e = same_moment σ r u x here

        to : Is (ltb (moment σ u (P.observer j)) (moment σ u x)) → Is (ltb (moment σ r (P.observer j)) (moment σ r x))
        to t =
            let l = ltb→lt (moment σ u (P.observer j)) (moment σ u x) t in
            lt→ltb (moment σ r (P.observer j)) (moment σ r x) (omega (arith, l, e, same_moment σ r u (P.observer j) (of_second (P.observer j) inside_j (omega (arith, l, e)))))

        from : Is (ltb (moment σ r (P.observer j)) (moment σ r x)) → Is (ltb (moment σ u (P.observer j)) (moment σ u x))
        from t =
            let l = ltb→lt (moment σ r (P.observer j)) (moment σ r x) t in
            lt→ltb (moment σ u (P.observer j)) (moment σ u x) (omega (arith, l, e, same_moment σ r u (P.observer j) (of_first (P.observer j) inside_j (omega (arith, l)))))

    same_place : SamePlace cut r u x
    unfolding cut
    same_place = record { same_time = same_time; same_position = position_same P (moment σ u) (moment σ r) x same_before }

  cut_dynamic : Dynamic cut
  unfolding cut
  cut_dynamic = record { reacts = same_place }

-- a panel, and it ends within the horizon
pub record PanelInHorizon (q : ℕ) (P : Plan) (E : Durations) : Type 0 where
  pub panel : Panel q P E
  pub within : InHorizon panel.strategy q

pub in_horizon : {P : Plan} {E : Durations} {q : ℕ} → WellFormed P → 0 < q → Panel q P E → PanelInHorizon q P E
in_horizon wf some panel = record { panel = record { strategy = cut wf some panel; viable = cut_viable wf some panel; dynamic = cut_dynamic wf some panel }; within = cut_in_horizon wf some panel }
