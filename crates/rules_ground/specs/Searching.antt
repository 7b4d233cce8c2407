-- For inner contracts only: what the parts of the search are lent and answer. Nothing here is to be believed: the whole answers `Tells`.
use Rattle.std.specs.Prelude.{◌≡◌, Bool, true, ◌&&◌, ◌⊎◌, List, ℕ, ◌+◌, ◌≤◌, ◌<◌, Option, Some, None}
use Rattle.plan.specs.Plan.{Plan, cells}
use Rattle.plan.specs.Layout.{plan_of}
use Rattle.rules.specs.declared.Line.{Line}
use Rattle.rules.specs.declared.Ground.{Ground}
use Rattle.rules.specs.declared.Edge.{Edge}
use Rattle.rules.specs.declared.Edge.TheVariants.{PlanEdge, HorizonEdge, UpperBound, LowerBound}
use Rattle.rules.specs.declared.Rule.{Rule}
use Rattle.rules.specs.declared.Rule.TheVariants.{Propagation, LowerCase, UpperCase, LetterRemoval, OwnLiteral, LiteralRemoval}
use Rattle.rules.specs.Lines.{line_at}
use Rattle.rules.specs.Rules.{constraint_of, uses_second}
use Rattle.rules.specs.Derivations.{InPlan}
use Rattle.rules_apply.specs.Applying.{gives_line_of}
use Rattle.rules_fill.specs.Parents.{given_point}
use Rattle.rules_ground.specs.declared.Row.{Row}
use Rattle.rules_ground.specs.declared.search.Search.{Search}
use Rattle.rules_ground.specs.Grounds.{holds_line, Grounds}
use Rattle.rules_ground.specs.Places.{SomeWithin, Masked}
use Rattle.rules_ground.specs.Rows.{down_of, RowOf}

-- ---- what a search is lent
abbrev pub the_plan : Search → Plan
the_plan s = plan_of s.plan.now

-- by an edge that starts at the line's point
pub record EdgeSearched (s : Search) (e : Edge) : Type 0 where
  pub row : InPlan (the_plan s) (Propagation e)
  pub from_is : (constraint_of (the_plan s) e).from ≡ s.line.point

-- by a rule with its row, at cell c
pub record CellSearched (s : Search) (by : Rule) (c : ℕ) : Type 0 where
  pub row : InPlan (the_plan s) by
  pub inside : c < cells (the_plan s)

-- at cells c and d
pub record PairSearched (s : Search) (by : Rule) (c d : ℕ) : Type 0 where
  pub at_first : CellSearched s by c
  pub second_in : d < cells (the_plan s)

-- at cell c, by a rule that takes a second parent and adds down to its wait
pub record SecondSearched (s : Search) (by : Rule) (down c : ℕ) : Type 0 where
  pub at_first : CellSearched s by c
  pub takes : uses_second by ≡ true
  pub down_is : down ≡ down_of (the_plan s) by
  pub down_small : down < 65536

-- from cell lo on, numbers from there within the mask
pub record SecondMasked (s : Search) (lo mask : ℕ) : Type 0 where
  pub masked : Masked mask s.width
  pub inside : lo + mask < cells (the_plan s)

-- by a rule whose row is known and gives lines of the line's point
pub record RowSearched (s : Search) (by : Rule) (row : Row) : Type 0 where
  pub in_plan : InPlan (the_plan s) by
  pub row_is : RowOf (the_plan s) by row
  pub given_is : given_point (the_plan s) by row.first ≡ s.line.point

-- with the first parent at place t
pub record PlaceSearched (s : Search) (by : Rule) (row : Row) (t : ℕ) : Type 0 where
  pub by_row : RowSearched s by row
  pub place_in : t < s.width

-- whether the rule gives k from the line l and the line of cell d
abbrev pub gives_with : Plan → List ℕ → Line → Rule → Line → ℕ → Bool
gives_with P T k r l d = holds_line P T d && gives_line_of P r l (line_at P T d) k

-- ---- answers
-- what is found is a ground, and nothing is found only where Q fails
abbrev pub TellsOf : Plan → List ℕ → Line → Type 0 → Option Ground → Type 0
TellsOf P T k Q (Some g) = Grounds P T k g
TellsOf P T k Q None = Q → ⊥

pub record Answers (P : Plan) (T : List ℕ) (k : Line) (Q : Type 0) (f : Option Ground) : Type 0 where
  pub tells : TellsOf P T k Q f

-- some number from lo on and below hi has F
pub record Among (F : ℕ → Type 0) (lo hi : ℕ) : Type 0 where
  pub index : ℕ
  pub from : lo ≤ index
  pub below : index < hi
  pub holds : F index

-- the rule gives k from the lines of cells c and d
abbrev pub SecondAt : Plan → List ℕ → Line → Rule → ℕ → ℕ → Type 0
SecondAt P T k r c d = Grounds P T k (record { by = r; first = c; second = d })

-- from the line of cell c and another
pub record FirstAt (P : Plan) (T : List ℕ) (k : Line) (r : Rule) (c : ℕ) : Type 0 where
  pub second : ℕ
  pub ground : SecondAt P T k r c second

-- ---- what is searched for: a line k with a ground in a table
abbrev pub Sought : Type 1
Sought = Plan → List ℕ → Line → Type 0

-- the answer to a search
abbrev pub Finds : Search → Sought → Option Ground → Type 0
Finds s Q f = Answers (the_plan s) s.table.now s.line (Q (the_plan s) s.table.now s.line) f

-- by the rule, with the lines of cells c and d as its parents; with that of cell c as the first; and with a second from cell lo on within the mask
abbrev pub ByPair : Rule → ℕ → ℕ → Sought
ByPair r c d P T k = SecondAt P T k r c d

abbrev pub ByFirst : Rule → ℕ → Sought
ByFirst r c P T k = FirstAt P T k r c

abbrev pub BySecond : Rule → ℕ → ℕ → ℕ → Sought
BySecond r c lo mask P T k = SomeWithin (λ v. SecondAt P T k r c (lo + v)) mask

-- by the rule, from any two lines
pub record ByRule (r : Rule) (P : Plan) (T : List ℕ) (k : Line) : Type 0 where
  pub first : ℕ
  pub at_first : FirstAt P T k r first

-- by one of two rules
abbrev pub ByEither : Rule → Rule → Sought
ByEither r q P T k = ByRule r P T k ⊎ ByRule q P T k

-- by the rules of link i at its activation, at its end, and by any
abbrev pub ByActivation : ℕ → Sought
ByActivation i = ByEither (Propagation (UpperBound i)) (LowerCase i)

abbrev pub ByFinish : ℕ → Sought
ByFinish i = ByEither (Propagation (LowerBound i)) (UpperCase i)

abbrev pub ByLink : ℕ → Sought
ByLink i P T k = ByActivation i P T k ⊎ (ByFinish i P T k ⊎ ByRule (LetterRemoval i) P T k)

-- by one of the rules of proposition j
abbrev pub ByProposition : ℕ → Sought
ByProposition j = ByEither (OwnLiteral j) (LiteralRemoval j)

-- by a row of each kind
abbrev pub ByEdges : Sought
ByEdges P T k = Among (λ i. ByRule (Propagation (PlanEdge i)) P T k) 0 P.edges

abbrev pub ByHorizonEdges : Sought
ByHorizonEdges P T k = Among (λ x. ByRule (Propagation (HorizonEdge x)) P T k) 1 P.points

abbrev pub ByLinks : Sought
ByLinks P T k = Among (λ i. ByLink i P T k) 0 P.links

abbrev pub ByPropositions : Sought
ByPropositions P T k = Among (λ j. ByProposition j P T k) 0 P.propositions
