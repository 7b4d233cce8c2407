-- What replay accepts, said without its order (11.7): the bytes that are a derivation, by the rules, rows and parents that they name, to "the first alarm waits for itself".
use Rattle.std.specs.Prelude.{◌≡◌, Some, List, ℕ, ◌+◌, ◌-◌, ◌*◌, ◌^◌, ◌≤◌, ◌<◌, T as Is, length}
use Rattle.plan.specs.Label.{plain}
use Rattle.plan.specs.Plan.{Plan}
use Rattle.plan.specs.Layout.{plan_of}
use Rattle.plan.specs.Refusal.{Accepted}
use Rattle.rules.specs.declared.Rule.{Rule}
use Rattle.rules.specs.Rules.{fires, result, uses_second}
use Rattle.replay.specs.Listings.{line_count, head_line, head_rule, row_of, first_parent, second_parent, rule_of, parent_line}

-- 11.7: line i is in range, and its rule gives it from starting lines or earlier lines
pub record LineDerives (P : Plan) (bs : List ℕ) (i : ℕ) : Type 0 where
  pub point_in : (head_line bs i).point < P.points
  pub set_in : (head_line bs i).set < 2 ^ P.links
  pub label_in : (head_line bs i).label < 4 ^ P.propositions
  pub rule : Rule
  pub named : rule_of P (head_rule bs i) (row_of bs i) ≡ Some rule
  pub first_known : first_parent bs i < P.points + i
  pub second_known : Is (uses_second rule) → second_parent bs i < P.points + i
  pub second_unused : (Is (uses_second rule) → ⊥) → second_parent bs i ≡ 0
  pub fire : Is (fires P rule (parent_line P bs (first_parent bs i)) (parent_line P bs (second_parent bs i)))
  pub gave : result P rule (parent_line P bs (first_parent bs i)) (parent_line P bs (second_parent bs i)) ≡ head_line bs i

-- 11.7: the bytes are laid out as a listing, every line derives, and the last one makes the first alarm wait for itself
pub record ListingDerives (plan bs : List ℕ) : Type 0 where
  pub accepted : Accepted plan
  pub some_lines : (1 ≤ line_count bs) × (line_count bs ≤ 4096)
  pub long : length bs ≡ 2 + 14 * line_count bs
  pub lines_derive : (i : ℕ) → i < line_count bs → LineDerives (plan_of plan) bs i
  pub last_first_alarm : (head_line bs (line_count bs - 1)).point ≡ 0
  pub last_plain : Is (plain (plan_of plan).propositions (head_line bs (line_count bs - 1)).label)
