-- What a panel is (17.4 to 17.10): a strategy that keeps a plan and reacts at once to what it has seen, and to nothing else. Times are in ticks.
use Rattle.std.specs.Prelude.{◌≡◌, Bool, ◌↔◌, ℕ, suc, ◌+◌, ◌*◌, ◌≤◌, ◌<◌}
use Rattle.plan.specs.Plan.{Plan}
use Rattle.rules_panel.specs.Dramas.{Durations, LeastOrMost, Drama, True}

-- 17.5: the end of no link, and the observing point of no proposition
pub record NoEnd (P : Plan) (x : ℕ) : Type 0 where
  pub no_end : (i : ℕ) → i < P.links → P.finish i ≡ x → ⊥

pub record NotObserving (P : Plan) (x : ℕ) : Type 0 where
  pub not_observing : (j : ℕ) → j < P.propositions → P.observer j ≡ x → ⊥

-- 17.4, 17.5: for each drama a time for every point, and a position: ends of links stand at 0, the observing points at 1 to p in some order, any other point at p + 1
pub record Strategy (P : Plan) (E : Durations) : Type 0 where
  pub time : Drama P E → ℕ → ℕ
  pub position : Drama P E → ℕ → ℕ
  pub end_first : (r : Drama P E) (i : ℕ) → i < P.links → position r (P.finish i) ≡ 0
  pub observing_from : (r : Drama P E) (j : ℕ) → j < P.propositions → 0 < position r (P.observer j)
  pub observing_to : (r : Drama P E) (j : ℕ) → j < P.propositions → position r (P.observer j) ≤ P.propositions
  pub distinct : (r : Drama P E) (i j : ℕ) → i < P.propositions → j < P.propositions → position r (P.observer i) ≡ position r (P.observer j) → i ≡ j
  pub other_last : (r : Drama P E) (x : ℕ) → x < P.points → NoEnd P x → NotObserving P x → position r x ≡ suc P.propositions

module _ {P : Plan} {E : Durations} (σ : Strategy P E) where
  -- 17.6: at q ticks to the second, in each drama the first alarm is at 0, every edge whose label is true is kept, and each link takes its duration
  pub record Viable (q : ℕ) : Type 0 where
    pub first_at_start : (r : Drama P E) → σ.time r 0 ≡ 0
    pub keeps_edge : (r : Drama P E) (i : ℕ) → i < P.edges → True P r.scenario (P.label i) → σ.time r (P.to i) + q * P.down i ≤ σ.time r (P.from i) + q * P.up i
    pub keeps_link : (r : Drama P E) (i : ℕ) → i < P.links → σ.time r (P.finish i) ≡ σ.time r (P.activation i) + q * r.situation i

  -- 17.7: the history of (t, d) in a drama holds that proposition j is b ..
  pub record Observed (t d : ℕ) (r : Drama P E) (j : ℕ) (b : Bool) : Type 0 where
    pub proposition : j < P.propositions
    pub by_then : σ.time r (P.observer j) ≤ t
    pub before : σ.position r (P.observer j) < d
    pub value : r.scenario j ≡ b

  -- .. and that link i took n ticks
  pub record Ended (t : ℕ) (r : Drama P E) (i n : ℕ) : Type 0 where
    pub link : i < P.links
    pub by_then : σ.time r (P.finish i) ≤ t
    pub took : σ.time r (P.finish i) ≡ σ.time r (P.activation i) + n

  -- 17.7: two dramas have the same history of (t, d)
  pub record SameHistory (t d : ℕ) (r u : Drama P E) : Type 0 where
    pub observed : (j : ℕ) (b : Bool) → Observed t d r j b ↔ Observed t d u j b
    pub ended : (i n : ℕ) → Ended t r i n ↔ Ended t u i n

  -- 17.8: a point has the same time and position in two dramas
  pub record SamePlace (r u : Drama P E) (x : ℕ) : Type 0 where
    pub same_time : σ.time u x ≡ σ.time r x
    pub same_position : σ.position u x ≡ σ.position r x

  -- 17.8: a point that is no end of a link stands alike in two dramas with the same history of its time and position in the first
  pub record Dynamic : Type 0 where
    pub reacts : (r u : Drama P E) (x : ℕ) → x < P.points → NoEnd P x → SameHistory (σ.time r x) (σ.position r x) r u → SamePlace r u x

-- 17.9: a panel that keeps the plan, at q ticks to the second, where the links take durations that are looked at
pub record Panel (q : ℕ) (P : Plan) (E : Durations) : Type 0 where
  pub strategy : Strategy P E
  pub viable : Viable strategy q
  pub dynamic : Dynamic strategy

-- 17.10: no panel keeps the plan, whatever the ticks to the second, even if each link takes its least or its most and nothing between
pub record NoPanel (P : Plan) : Type 0 where
  pub none : (q : ℕ) → 0 < q → Panel q P (LeastOrMost P) → ⊥
