-- What the answers mean, over all finite derivations from a plan (15).
use Rattle.std.specs.Prelude.{◌≡◌, ◌↔◌, List, ℕ, ◌+◌, ◌*◌, ◌≤◌, ◌<◌, get_or}
use Rattle.plan.specs.Plan.{Plan, cells}
use Rattle.rules.specs.Derivations.{Reaches, SelfWait}
use Rattle.rules_panel.specs.Dramas.{AnyDuration}
use Rattle.rules_panel.specs.Strategies.{Panel, NoPanel}
use Rattle.rules_follow.specs.Following.{Preference, Followed}
use Rattle.rounds_making.specs.Outcomes.{Outcome, kept, broken, spent, refused}

abbrev pub IsKept : Outcome → Type 0
IsKept (kept r) = Unit {0}
IsKept (broken r) = ⊥
IsKept (spent n) = ⊥
IsKept (refused n) = ⊥

abbrev pub IsBroken : Outcome → Type 0
IsBroken (kept r) = ⊥
IsBroken (broken r) = Unit {0}
IsBroken (spent n) = ⊥
IsBroken (refused n) = ⊥

abbrev pub IsSpent : Outcome → Type 0
IsSpent (kept r) = ⊥
IsSpent (broken r) = ⊥
IsSpent (spent n) = Unit {0}
IsSpent (refused n) = ⊥

abbrev pub IsRefused : Outcome → Type 0
IsRefused (kept r) = ⊥
IsRefused (broken r) = ⊥
IsRefused (spent n) = ⊥
IsRefused (refused n) = Unit {0}

-- 15.2: v is the longest wait that any derivation reaches in cell c, 0 where none does
pub record HoldsLongest (P : Plan) (c v : ℕ) : Type 0 where
  pub where_reached : (w : ℕ) → Reaches P c w → Reaches P c v × ((u : ℕ) → Reaches P c u → u ≤ v)
  pub where_not : ((w : ℕ) → Reaches P c w → ⊥) → v ≡ 0

-- 15.4: the number of rounds that is enough for the plan
abbrev pub enough_rounds : Plan → ℕ
enough_rounds P = cells P * (P.horizon + P.largest + 1) + 1

-- 9.6: the limit that serves every accepted plan
abbrev pub serving_limit : ℕ
serving_limit = 15571369985

-- 15.1, 15.2, 15.4, 15.6, 15.7: broken and kept say what they mean whatever the limit, and with enough rounds a plan that is not refused gets one of them.
-- Where it does, it is kept exactly when there is a panel that keeps it; following either table is such a panel
pub record Meaning (P : Plan) (limit : ℕ) (o : Outcome) (first second : List ℕ) : Type 0 where
  pub broken_then : IsBroken o → SelfWait P
  pub broken_no_panel : IsBroken o → NoPanel P
  pub kept_then : IsKept o → SelfWait P → ⊥
  pub first_longest : IsKept o → (c : ℕ) → c < cells P → HoldsLongest P c (get_or first c 0)
  pub second_longest : IsKept o → (c : ℕ) → c < cells P → HoldsLongest P c (get_or second c 0)
  pub first_followed : IsKept o → (prefer : Preference) → Followed P first prefer
  pub second_followed : IsKept o → (prefer : Preference) → Followed P second prefer
  pub broken_if : (IsRefused o → ⊥) → enough_rounds P ≤ limit → SelfWait P → IsBroken o
  pub kept_if : (IsRefused o → ⊥) → enough_rounds P ≤ limit → (SelfWait P → ⊥) → IsKept o
  pub kept_exactly : (IsRefused o → ⊥) → (IsSpent o → ⊥) → IsKept o ↔ Panel 1 P AnyDuration
