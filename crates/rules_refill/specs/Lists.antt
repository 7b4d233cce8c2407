-- For inner contracts only: what the rounds know of a table between two rounds, namely the lines of each point, and the cells that the last round raised.
-- Nothing here is to be believed. In a list of w entries for each of its rows, row 2y has the raised places of point y, and row 2y + 1 the places of its lines.
use Rattle.std.specs.Prelude.{◌≡◌, ◌⊎◌, List, ℕ, ◌+◌, ◌*◌, ◌≤◌, ◌<◌, T as Is, length, get_or}
use Rattle.plan.specs.Plan.{Plan, width}
use Rattle.rules.specs.declared.Rule.{Rule}
use Rattle.rules.specs.Rules.{uses_second}
use Rattle.rules.specs.Derivations.{InPlan}
use Rattle.rules_fill.specs.Parents.{first_point, second_point}
use Rattle.rules_fill.specs.Shapes.{is_line}
use Rattle.rules_fill.proofs.PointLaws.{place, gives, given_line}
use Rattle.rules_listed.specs.Places.{Listed, Places, count_below}

-- place t of point y is among the raised ones, and among its lines
abbrev pub Raised : ℕ → List ℕ → List ℕ → ℕ → ℕ → Type 0
Raised w L counts y t = Listed L (2 * y * w) (get_or counts (2 * y) 0) t

abbrev pub Lined : ℕ → List ℕ → List ℕ → ℕ → ℕ → Type 0
Lined w L counts y t = Listed L ((2 * y + 1) * w) (get_or counts (2 * y + 1) 0) t

-- what a rule gives from lines of which none is raised waits no longer than its cell
pub record Covered (P : Plan) (A L counts : List ℕ) : Type 0 where
  pub given : (x : ℕ) → x < P.points → (r : Rule) → InPlan P r → (t u : ℕ) → t < width P → u < width P → Is (gives P A x r t u)
      → Raised (width P) L counts (first_point P r x) t
      ⊎ ((Is (uses_second r) × Raised (width P) L counts (second_point P r) u)
      ⊎ ((given_line P A x r t u).wait ≤ get_or A (x * width P + place P (given_line P A x r t u)) 0))

-- the lists of point y: raised places, and all its lines, each once
pub record PointLists (w : ℕ) (A L counts : List ℕ) (y : ℕ) : Type 0 where
  pub raised_places : Places L (2 * y * w) (get_or counts (2 * y) 0) w
  pub line_places : Places L ((2 * y + 1) * w) (get_or counts (2 * y + 1) 0) w
  pub line_count : get_or counts (2 * y + 1) 0 ≡ count_below (λ t. is_line t (get_or A (y * w + t) 0)) w
  pub all_lines : (t : ℕ) → t < w → Is (is_line t (get_or A (y * w + t) 0)) → Lined w L counts y t

pub record Lists (P : Plan) (A L counts : List ℕ) : Type 0 where
  pub counts_long : 2 * P.points ≤ length counts
  pub of_point : (y : ℕ) → y < P.points → PointLists (width P) A L counts y
  pub covered : Covered P A L counts
