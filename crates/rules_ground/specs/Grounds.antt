-- For inner contracts only: a ground (10.3) is a rule with its row, and the parents from which it gives a line. Nothing here is to be believed: replay judges a listing's grounds.
use Rattle.std.specs.Prelude.{◌≡◌, Bool, ◌||◌, List, ℕ, ◌%◌, ◌<◌, T as Is, ltb, eqb, length, get_or, Option, Some, None}
use Rattle.plan.specs.Label.{Marks}
use Rattle.plan.specs.Plan.{Plan, width, cells}
use Rattle.plan.specs.Layout.{plan_of}
use Rattle.plan.specs.Refusal.{Accepted}
use Rattle.rules.specs.declared.Line.{Line}
use Rattle.rules.specs.declared.Ground.{Ground}
use Rattle.rules.specs.Lines.{line_at}
use Rattle.rules.specs.Rules.{fires, result}
use Rattle.rules.specs.Derivations.{InPlan}

-- a cell that holds a line: it is above 0, or a point's starting cell
unfoldable pub holds_line : Plan → List ℕ → ℕ → Bool
holds_line P T c = ltb 0 (get_or T c 0) || eqb (c % width P) 0

-- what a search is lent: an accepted plan, the marks, its horizon and a table of its cells
pub record Searchable (plan marks : List ℕ) (horizon : ℕ) (table : List ℕ) : Type 0 where
  pub accepted : Accepted plan
  pub marked : Marks marks
  pub horizon_is : horizon ≡ (plan_of plan).horizon
  pub long : length table ≡ cells (plan_of plan)

-- the ground's rule gives k from the lines that its cells of the table hold; a rule of one parent ignores the second
pub record Grounds (P : Plan) (T : List ℕ) (k : Line) (g : Ground) : Type 0 where
  pub row : InPlan P g.by
  pub first_in : g.first < cells P
  pub second_in : g.second < cells P
  pub first_line : Is (holds_line P T g.first)
  pub second_line : Is (holds_line P T g.second)
  pub fire : Is (fires P g.by (line_at P T g.first) (line_at P T g.second))
  pub gave : result P g.by (line_at P T g.first) (line_at P T g.second) ≡ k

-- what is found is a ground, and nothing is found only where there is none
abbrev pub Tells : Plan → List ℕ → Line → Option Ground → Type 0
Tells P T k (Some g) = Grounds P T k g
Tells P T k None = (g : Ground) → Grounds P T k g → ⊥
