-- The definitions are not empty: plans/ramp-quick has a panel, however long the shutter takes. It asks as soon as the shutter is down, and starts the jet fans at that
-- moment if the answer is no, and at 180 s if it is yes.
use mathlib.Core.Path.{◌≡◌, refl, ◌∙◌}
use mathlib.Core.Bool.{Bool, true, false, cond}
use mathlib.Core.List.{List, [], ◌∷◌}
use Prim.Native.Nat.{ℕ, zero, suc, ◌+◌, ◌*◌, ◌≤◌, ◌<◌}
use native.Mathlib.Nat.{le_refl, zero-add, mul-le-mul_left}
use native.Mathlib.Omega.{arith}
use Rattle.plan.specs.Bytes.{byte_at, word_at}
use Rattle.plan.specs.Label.{digit}
use Rattle.plan.specs.Layout.{ends_at, data_at, row_of_edge, up_of, down_of, most_at, down_at, plan_of, label_bytes}
use Rattle.plan.specs.Plan.{Plan}
use Rattle.rules_panel.specs.Dramas.{AnyDuration, Drama, True}
use Rattle.rules_panel.specs.Strategies.{NoEnd, NotObserving, Strategy, Viable, SameHistory, SamePlace, Panel}

-- the bytes of plans/ramp-quick.plan
abbrev pub ramp_quick : List ℕ
ramp_quick = 4 ∷ 1 ∷ 1 ∷ 3 ∷ 2 ∷ 0 ∷ 1 ∷ 2 ∷ 1 ∷ 3 ∷ 0 ∷ 0 ∷ 3 ∷ 0 ∷ 15 ∷ 0 ∷ 60 ∷ 0 ∷ 0 ∷ 0 ∷ 0 ∷ 255 ∷ 76 ∷ 1 ∷ 0 ∷ 0 ∷ 60 ∷ 2 ∷ 0 ∷ []

abbrev P : Plan
P = plan_of ramp_quick

-- alarm, shutter down, poll, jets
position_of : ℕ → ℕ
position_of zero = 2
position_of (suc zero) = 0
position_of (suc (suc zero)) = 1
position_of (suc (suc (suc x))) = 2

first : (Q : ℕ → Type 0) → Q 0 → (j : ℕ) → j < 1 → Q j
first Q a zero h = a
first Q a (suc j) h = absurd (omega arith)

module _ (q : ℕ) where
  -- the jet fans, where the shutter took d seconds and the answer was b
  jets : ℕ → Bool → ℕ
  jets d b = cond b (q * 180) (q * d)

  time_of : ℕ → Bool → ℕ → ℕ
  time_of d b zero = 0
  time_of d b (suc zero) = q * d
  time_of d b (suc (suc zero)) = q * d
  time_of d b (suc (suc (suc x))) = jets d b

  σ : Strategy P AnyDuration
  unfolding plan_of byte_at word_at label_bytes ends_at data_at row_of_edge position_of
  σ = record {
    time = λ r x. time_of (r.situation 0) (r.scenario 0) x;
    position = λ r x. position_of x;
    end_first = λ r. first (λ i. position_of (P.finish i) ≡ 0) refl;
    observing_from = λ r. first (λ j. 0 < position_of (P.observer j)) (omega arith);
    observing_to = λ r. first (λ j. position_of (P.observer j) ≤ 1) (omega arith);
    distinct = λ r i j h k e. omega arith;
    other_last = λ r. last;
  }
    where
      last : (x : ℕ) → x < 4 → NoEnd P x → NotObserving P x → position_of x ≡ 2
      last zero h a b = refl
      last (suc zero) h a b = absurd (a.no_end 0 (omega arith) refl)
      last (suc (suc zero)) h a b = absurd (b.not_observing 0 (omega arith) refl)
      last (suc (suc (suc x))) h a b = refl

  -- ---- it keeps the plan
  shutter : (r : Drama P AnyDuration) → q * r.situation 0 ≤ q * 60
  unfolding plan_of byte_at word_at label_bytes ends_at data_at row_of_edge most_at
  shutter r = mul-le-mul_left q (r.no_longer 0 (omega arith))

  keeps_edges : (r : Drama P AnyDuration) (i : ℕ) → i < P.edges → True P r.scenario (P.label i) → σ.time r (P.to i) + q * P.down i ≤ σ.time r (P.from i) + q * P.up i
  unfolding plan_of byte_at word_at label_bytes ends_at data_at row_of_edge up_of down_of down_at most_at digit time_of jets σ
  keeps_edges r zero h t = le_refl (q * r.situation 0 + q * 0)
  keeps_edges r (suc zero) h t = rw (t.is_yes 0 (omega arith) refl) (omega arith)
  keeps_edges r (suc (suc zero)) h t = rw (t.is_no 0 (omega arith) refl) (omega (arith, shutter r))
  keeps_edges r (suc (suc (suc i))) h t = absurd (omega arith)

  viable : Viable σ q
  unfolding plan_of byte_at word_at label_bytes ends_at data_at row_of_edge time_of σ
  viable = record {
    first_at_start = λ r. refl;
    keeps_edge = keeps_edges;
    keeps_link = λ r. first (λ i. time_of (r.situation 0) (r.scenario 0) (P.finish i) ≡ time_of (r.situation 0) (r.scenario 0) (P.activation i) + q * r.situation i) (omega arith);
  }

  -- ---- it reacts to what it has seen
  -- the jet fans start once the shutter is down
  jets_from : (r : Drama P AnyDuration) (b : Bool) → q * r.situation 0 ≤ jets (r.situation 0) b
  unfolding jets
  jets_from r true = omega (arith, shutter r)
  jets_from r false = le_refl (q * r.situation 0)

  -- whoever knows that the shutter is down knows how long it took, and, once it has asked, the answer
  module _ (t d : ℕ) (r u : Drama P AnyDuration) (down : q * r.situation 0 ≤ t) (s : SameHistory σ t d r u) where
    same_duration : q * u.situation 0 ≡ q * r.situation 0
    unfolding plan_of byte_at word_at label_bytes ends_at data_at row_of_edge time_of σ
    same_duration = ((s.ended 0 (q * r.situation 0)).0 (record { link = omega arith; by_then = down; took = omega arith })).took ∙ zero-add _

    same_answer : 1 < d → u.scenario 0 ≡ r.scenario 0
    unfolding plan_of byte_at word_at label_bytes ends_at data_at row_of_edge time_of position_of σ
    same_answer k = ((s.observed 0 (r.scenario 0)).0 (record { proposition = omega arith; by_then = down; before = k; value = refl })).value

  reacts : (r u : Drama P AnyDuration) (x : ℕ) → x < P.points → NoEnd P x → SameHistory σ (σ.time r x) (σ.position r x) r u → SamePlace σ r u x
  unfolding plan_of byte_at word_at label_bytes ends_at data_at row_of_edge time_of jets position_of σ
  reacts r u zero h n s = record { same_time = refl; same_position = refl }
  reacts r u (suc zero) h n s = absurd (n.no_end 0 (omega arith) refl)
  reacts r u (suc (suc zero)) h n s = record { same_time = same_duration (q * r.situation 0) 1 r u (le_refl _) s; same_position = refl }
  reacts r u (suc (suc (suc x))) h n s =
      let t = jets (r.situation 0) (r.scenario 0) in
      let down = jets_from r (r.scenario 0) in
      record { same_time = rw (same_duration t 2 r u down s, same_answer t 2 r u down s (omega arith)); same_position = refl }

-- 17.11: the panel, at any number of ticks to the second
pub ramp_quick_panel : (q : ℕ) → Panel q (plan_of ramp_quick) AnyDuration
ramp_quick_panel q = record { strategy = σ q; viable = viable q; dynamic = record { reacts = reacts q } }
