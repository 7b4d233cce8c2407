-- For inner contracts only: the bytes of one line of a listing (10.2), and what putting them there changes. Nothing here is to be believed.
use Rattle.std.specs.Prelude.{◌≡◌, cond, Some, List, [], ◌∷◌, ◌++◌, ℕ, ◌+◌, ◌*◌, ◌/◌, ◌%◌, ◌≤◌, ◌<◌, length}
use Rattle.plan.specs.Plan.{Plan}
use Rattle.plan.specs.Refusal.{Accepted}
use Rattle.rules.specs.declared.Ground.{Ground}
use Rattle.rules.specs.declared.Line.{Line}
use Rattle.rules.specs.declared.Edge.{Edge}
use Rattle.rules.specs.declared.Edge.TheVariants.{PlanEdge, HorizonEdge, UpperBound, LowerBound}
use Rattle.rules.specs.declared.Rule.{Rule}
use Rattle.rules.specs.declared.Rule.TheVariants.{Propagation, LowerCase, UpperCase, LetterRemoval, OwnLiteral, LiteralRemoval}
use Rattle.rules.specs.Rules.{uses_second}
use Rattle.rules.specs.Derivations.{InPlan}
use Rattle.rules_ground.specs.Frames.{Fitting}
use Rattle.replay.specs.Listings.{line_count, head_line, head_rule, row_of, first_parent, second_parent, rule_of}

-- a 16-bit number, the high byte first
abbrev pub word_bytes : ℕ → List ℕ
word_bytes v = v / 256 ∷ v % 256 ∷ []

-- point, set, label, rule (one byte each), wait (32 bits)
abbrev pub head_bytes : Line → ℕ → List ℕ
head_bytes l rule = l.point ∷ l.set ∷ l.label ∷ rule ∷ word_bytes (l.wait / 65536) ++ word_bytes (l.wait % 65536)

-- row, first parent, second parent (16 bits each)
abbrev pub ground_bytes : ℕ → ℕ → ℕ → List ℕ
ground_bytes row a b = word_bytes row ++ word_bytes a ++ word_bytes b

-- the numbers of a rule and of its row
abbrev pub rule_number : Rule → ℕ
rule_number (Propagation e) = 1
rule_number (LowerCase i) = 2
rule_number (UpperCase i) = 3
rule_number (LetterRemoval i) = 4
rule_number (OwnLiteral j) = 5
rule_number (LiteralRemoval j) = 6

-- for rule 1 an edge number, e + Y for the horizon edge to Y, or e + n + 2i and e + n + 2i + 1 for the edges of link i
abbrev pub edge_number : Plan → Edge → ℕ
edge_number P (PlanEdge i) = i
edge_number P (HorizonEdge x) = P.edges + x
edge_number P (UpperBound i) = P.edges + P.points + 2 * i
edge_number P (LowerBound i) = P.edges + P.points + 2 * i + 1

abbrev pub row_number : Plan → Rule → ℕ
row_number P (Propagation e) = edge_number P e
row_number P (LowerCase i) = i
row_number P (UpperCase i) = i
row_number P (LetterRemoval i) = i
row_number P (OwnLiteral j) = j
row_number P (LiteralRemoval j) = j

-- "second, only for 4 and 6 ..; else 0"
abbrev pub second_number : Rule → ℕ → ℕ
second_number r b = cond (uses_second r) b 0

-- an output of just the length of its m lines
pub record ListingBytes (m : ℕ) (out : List ℕ) : Type 0 where
  pub count : line_count out ≡ m
  pub long : length out ≡ 2 + 14 * m
  pub few : m ≤ 4096

-- room for line i of m, whose parts fit their bytes
pub record LineReady (plan out : List ℕ) (m i : ℕ) (l : Line) : Type 0 where
  pub accepted : Accepted plan
  pub listing : ListingBytes m out
  pub room : i < m
  pub fits : Fitting l

-- a rule of the plan, and line numbers of 16 bits
pub record GroundReady (P : Plan) (g : Ground) : Type 0 where
  pub row : InPlan P g.by
  pub first_fits : g.first < 65536
  pub second_fits : g.second < 65536

-- line j has the same head and ground in both
pub record SameFields (bs cs : List ℕ) (j : ℕ) : Type 0 where
  pub same_line : head_line cs j ≡ head_line bs j
  pub same_rule : head_rule cs j ≡ head_rule bs j
  pub same_row : row_of cs j ≡ row_of bs j
  pub same_first : first_parent cs j ≡ first_parent bs j
  pub same_second : second_parent cs j ≡ second_parent bs j

-- line i of the m lines became l by ground g, whose parents are line numbers, and nothing else changed
pub record LinePut (P : Plan) (m i : ℕ) (l : Line) (g : Ground) (bs cs : List ℕ) : Type 0 where
  pub as_long : length cs ≡ length bs
  pub counted : line_count cs ≡ line_count bs
  pub line_is : head_line cs i ≡ l
  pub rule_is : rule_of P (head_rule cs i) (row_of cs i) ≡ Some g.by
  pub first_is : first_parent cs i ≡ g.first
  pub second_is : second_parent cs i ≡ second_number g.by g.second
  pub others : (j : ℕ) → j < m → (j ≡ i → ⊥) → SameFields bs cs j
