-- Moments: the time of a point and, among points of one time, its position, in one number. Points come in the order of their moments.
use mathlib.Core.Path.{◌≡◌, sym, ap, ap₂, ◌∙◌}
use mathlib.Core.Logic.{◌⊎◌, inl, inr, ⊎_elim}
use Prim.Native.Nat.{ℕ, zero, suc, ◌+◌, ◌*◌, ◌≤◌, ◌<◌}
use native.Mathlib.Nat.{suc-mul, mul-le-mul_right}
use native.Mathlib.Decide.{ℕ_discrete, dec_le}
use native.Mathlib.Omega.{arith}
use Rattle.plan.specs.Plan.{Plan}
use Rattle.rules_panel.specs.Dramas.{Durations, Drama}
use Rattle.rules_panel.specs.Strategies.{NoEnd, NotObserving, Strategy, SamePlace}

-- ---- a number among f 0 .. f (n - 1), or not
pub record Among (f : ℕ → ℕ) (x n : ℕ) : Type 0 where
  pub number : ℕ
  pub under : number < n
  pub is : f number ≡ x

among : (f : ℕ → ℕ) (x n : ℕ) → Among f x n ⊎ ((i : ℕ) → i < n → f i ≡ x → ⊥)
among f x zero = inr (λ i h e. omega arith)
among f x (suc n) = go (among f x n) (ℕ_discrete (f n) x)
  where
    go : Among f x n ⊎ ((i : ℕ) → i < n → f i ≡ x → ⊥) → Dec (f n ≡ x) → Among f x (suc n) ⊎ ((i : ℕ) → i < suc n → f i ≡ x → ⊥)
    go (inl a) d = inl (record { number = a.number; under = omega (arith, a.under); is = a.is })
    go (inr no') (yes e) = inl (record { number = n; under = omega arith; is = e })
    go (inr no') (no ne) = inr (λ i h e. last i h e (ℕ_discrete i n))
      where
        last : (i : ℕ) → i < suc n → f i ≡ x → Dec (i ≡ n) → ⊥
        last i h e (yes k) = ne (ap f (sym k) ∙ e)
        last i h e (no k) = no' i (omega arith) e

-- a point is the end of a link or not, and observes or not
abbrev pub Ends : Plan → ℕ → Type 0
Ends P x = Among P.finish x P.links ⊎ NoEnd P x

pub ends? : (P : Plan) (x : ℕ) → Ends P x
ends? P x = ⊎_elim inl (λ n. inr (record { no_end = n })) (among P.finish x P.links)

abbrev pub Observes : Plan → ℕ → Type 0
Observes P x = Among P.observer x P.propositions ⊎ NotObserving P x

pub observes? : (P : Plan) (x : ℕ) → Observes P x
observes? P x = ⊎_elim inl (λ n. inr (record { not_observing = n })) (among P.observer x P.propositions)

-- ---- a time and a position in one number
module _ (P : Plan) where
  -- positions are 0 to p + 1
  abbrev pub positions : ℕ
  positions = suc (suc P.propositions)

  pub moment_at : ℕ → ℕ → ℕ
  moment_at t d = t * positions + d

  module _ (t u d e : ℕ) where
    -- a sooner time, or the same one and a lower position
    pub sooner_before : t < u → d < positions → moment_at t d < moment_at u e
    unfolding moment_at
    sooner_before h k = omega (arith, suc-mul t positions, mul-le-mul_right positions h)

    pub lower_before : t ≤ u → d < e → moment_at t d < moment_at u e
    unfolding moment_at
    lower_before h k = omega (arith, mul-le-mul_right positions h)

    pub lower_up_to : t ≤ u → d ≤ e → moment_at t d ≤ moment_at u e
    unfolding moment_at
    lower_up_to h k = omega (arith, mul-le-mul_right positions h)

  pub no_later : (t u d e : ℕ) → moment_at t d ≤ moment_at u e → e < positions → t ≤ u
  no_later t u d e h k = go (dec_le t u)
    where
      go : Dec (t ≤ u) → t ≤ u
      go (yes l) = l
      go (no l) = absurd (omega (arith, sooner_before u t e d (omega arith) k))

  same_second_part : (t u d e : ℕ) → t ≡ u → moment_at t d ≡ moment_at u e → d ≡ e
  unfolding moment_at
  same_second_part t u d e h k = let f : t * positions ≡ u * positions = ap (λ (x : ℕ). x * positions) h in omega arith

-- ---- the moment of a point
module _ {P : Plan} {E : Durations} (σ : Strategy P E) where
  abbrev pub moment : Drama P E → ℕ → ℕ
  moment r x = moment_at P (σ.time r x) (σ.position r x)

  pub position_pos : (r : Drama P E) (x : ℕ) → x < P.points → NoEnd P x → 0 < σ.position r x
  position_pos r x h n = go (observes? P x)
    where
      go : Observes P x → 0 < σ.position r x
      go (inl b) = let e = ap (σ.position r) b.is in omega (arith, σ.observing_from r b.number b.under)
      go (inr b) = omega (arith, σ.other_last r x h n b)

  position_lt : (r : Drama P E) (x : ℕ) → x < P.points → σ.position r x < positions P
  position_lt r x h = go (ends? P x) (observes? P x)
    where
      go : Ends P x → Observes P x → σ.position r x < positions P
      go (inl a) o = let e = ap (σ.position r) a.is in omega (arith, σ.end_first r a.number a.under)
      go (inr a) (inl b) = let e = ap (σ.position r) b.is in omega (arith, σ.observing_to r b.number b.under)
      go (inr a) (inr b) = omega (arith, σ.other_last r x h a b)

  module _ (r u : Drama P E) where
    pub same_sym : (x : ℕ) → SamePlace σ r u x → SamePlace σ u r x
    same_sym x s = record { same_time = sym s.same_time; same_position = sym s.same_position }

    pub same_moment : (x : ℕ) → SamePlace σ r u x → moment u x ≡ moment r x
    same_moment x s = ap₂ (moment_at P) s.same_time s.same_position

    module _ (x y : ℕ) where
      pub sooner : x < P.points → σ.time r x < σ.time u y → moment r x < moment u y
      sooner h k = sooner_before P (σ.time r x) (σ.time u y) (σ.position r x) (σ.position u y) k (position_lt r x h)

      pub up_to_time : y < P.points → moment r x ≤ moment u y → σ.time r x ≤ σ.time u y
      up_to_time h k = no_later P (σ.time r x) (σ.time u y) (σ.position r x) (σ.position u y) k (position_lt u y h)

      pub one_position : x < P.points → y < P.points → moment r x ≡ moment u y → σ.position r x ≡ σ.position u y
      one_position h k e =
          let t : σ.time r x ≤ σ.time u y = up_to_time k (omega arith) in
          let s = no_later P (σ.time u y) (σ.time r x) (σ.position u y) (σ.position r x) (omega arith) (position_lt r x h) in
          same_second_part P (σ.time r x) (σ.time u y) (σ.position r x) (σ.position u y) (omega arith) e
