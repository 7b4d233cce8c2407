-- Derivations (7), oldest line first.
use Rattle.std.specs.Prelude.{◌≡◌, ◌⊎◌, ℕ, ◌<◌, T as Is}
use mathlib.Core.List.{List, [], ◌∷◌, Memᴰ}
use Rattle.plan.specs.Label.{plain}
use Rattle.plan.specs.Plan.{Plan}
use Rattle.rules.specs.declared.Line.{Line}
use Rattle.rules.specs.declared.Edge.TheVariants.{PlanEdge, HorizonEdge, UpperBound, LowerBound}
use Rattle.rules.specs.declared.Rule.{Rule}
use Rattle.rules.specs.declared.Rule.TheVariants.{Propagation, LowerCase, UpperCase, LetterRemoval, OwnLiteral, LiteralRemoval}
use Rattle.rules.specs.Lines.{cell_of, starting_line}
use Rattle.rules.specs.Rules.{fires, result}

-- 7.1: the rule's row is one of the plan's: an edge of 6.7, a link, or a proposition
abbrev pub InPlan : Plan → Rule → Type 0
InPlan P (Propagation (PlanEdge i)) = i < P.edges
InPlan P (Propagation (HorizonEdge x)) = (0 < x) × (x < P.points)
InPlan P (Propagation (UpperBound i)) = i < P.links
InPlan P (Propagation (LowerBound i)) = i < P.links
InPlan P (LowerCase i) = i < P.links
InPlan P (UpperCase i) = i < P.links
InPlan P (LetterRemoval i) = i < P.links
InPlan P (OwnLiteral j) = j < P.propositions
InPlan P (LiteralRemoval j) = j < P.propositions

-- 5.3: a starting line of one of the plan's points
pub record Starting (P : Plan) (l : Line) : Type 0 where
  pub inside : l.point < P.points
  pub is_starting : l ≡ starting_line l.point

-- 7.1: a starting line, or one that H holds of
abbrev pub Parent : Plan → (Line → Type 0) → Line → Type 0
Parent P H l = Starting P l ⊎ H l

-- 7.1: one of the six rules, with a row of the plan, gives k from two parents
pub record Given (P : Plan) (H : Line → Type 0) (k : Line) : Type 0 where
  pub rule : Rule
  pub row : InPlan P rule
  pub first : Line
  pub second : Line
  pub first_is : Parent P H first
  pub second_is : Parent P H second
  pub fire : Is (fires P rule first second)
  pub gave : result P rule first second ≡ k

-- 7.1: each line is given from starting lines, lines of `earlier`, and those before it in the list
abbrev pub Follows : Plan → List Line → List Line → Type 0
Follows P earlier [] = Unit {0}
Follows P earlier (k ∷ ks) = Given P (λ l. Memᴰ l earlier) k × Follows P (k ∷ earlier) ks

-- 7.1: a derivation from a plan: a finite list of lines, the empty list too
abbrev pub Derivation : Plan → List Line → Type 0
Derivation P ks = Follows P [] ks

-- 7.3: the derivation reaches the wait w in cell c
pub record ReachesBy (P : Plan) (c w : ℕ) (ks : List Line) : Type 0 where
  pub line : Line
  pub among : Memᴰ line ks
  pub belongs : cell_of P line ≡ c
  pub waits : line.wait ≡ w

-- 7.3: some derivation does
pub record Reaches (P : Plan) (c w : ℕ) : Type 0 where
  pub lines : List Line
  pub derives : Derivation P lines
  pub by : ReachesBy P c w lines

-- 7.4: the derivation makes the first alarm wait for itself
pub record SelfWaitBy (P : Plan) (ks : List Line) : Type 0 where
  pub line : Line
  pub among : Memᴰ line ks
  pub first_alarm : line.point ≡ 0
  pub is_plain : Is (plain P.propositions line.label)

-- 7.4: some derivation does
pub record SelfWait (P : Plan) : Type 0 where
  pub lines : List Line
  pub derives : Derivation P lines
  pub by : SelfWaitBy P lines
