-- What nobody chooses (17.1 to 17.3): the answers and the durations.
use Rattle.std.specs.Prelude.{◌≡◌, Bool, true, false, ◌⊎◌, ℕ, ◌≤◌, ◌<◌}
use Rattle.plan.specs.Label.{digit}
use Rattle.plan.specs.Plan.{Plan}

-- 17.2: the durations that are looked at: E i n if link i may take n seconds
abbrev pub Durations : Type 1
Durations = ℕ → ℕ → Type 0

-- 17.2: all of them
abbrev pub AnyDuration : Durations
AnyDuration i n = Unit {0}

-- 17.2: a link's least and most alone
abbrev pub LeastOrMost : Plan → Durations
LeastOrMost P i n = (n ≡ P.least i) ⊎ (n ≡ P.most i)

-- 17.1, 17.2: a drama: a scenario, yes or no for each proposition, and a situation, for each link a duration between its least and its most that is looked at
pub record Drama (P : Plan) (E : Durations) : Type 0 where
  pub scenario : ℕ → Bool
  pub situation : ℕ → ℕ
  pub no_shorter : (i : ℕ) → i < P.links → P.least i ≤ situation i
  pub no_longer : (i : ℕ) → i < P.links → situation i ≤ P.most i
  pub looked_at : (i : ℕ) → i < P.links → E i (situation i)

-- 17.3: a plain label is true in a scenario: yes for each digit 1, no for each digit 2
pub record True (P : Plan) (scenario : ℕ → Bool) (label : ℕ) : Type 0 where
  pub is_yes : (j : ℕ) → j < P.propositions → digit label j ≡ 1 → scenario j ≡ true
  pub is_no : (j : ℕ) → j < P.propositions → digit label j ≡ 2 → scenario j ≡ false
