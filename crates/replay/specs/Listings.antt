-- The bytes of a listing (10.2, 10.3): m, then m heads, then m grounds.
use Rattle.std.specs.Prelude.{cond, Option, None, Some, List, map, ℕ, zero, suc, ◌+◌, ◌-◌, ◌*◌, ◌/◌, ◌%◌, ltb, eqb}
use Rattle.std.specs.Bool.{then_some}
use Rattle.plan.specs.Bytes.{byte_at, word_at}
use Rattle.plan.specs.Plan.{Plan}
use Rattle.rules.specs.declared.Line.{Line}
use Rattle.rules.specs.declared.Edge.{Edge}
use Rattle.rules.specs.declared.Edge.TheVariants.{PlanEdge, HorizonEdge, UpperBound, LowerBound}
use Rattle.rules.specs.declared.Rule.{Rule}
use Rattle.rules.specs.declared.Rule.TheVariants.{Propagation, LowerCase, UpperCase, LetterRemoval, OwnLiteral, LiteralRemoval}
use Rattle.rules.specs.Lines.{below, starting_line}

-- 3.1: a 32-bit number, the high byte first
unfoldable pub long_at : List ℕ → ℕ → ℕ
long_at bs i = word_at bs i * 65536 + word_at bs (i + 2)

-- 10.2: m
unfoldable pub line_count : List ℕ → ℕ
line_count bs = word_at bs 0

-- 10.2: where the head of line i stands, and its parts: point, set, label and rule, a byte each, and the wait
unfoldable pub head_in : ℕ → ℕ
head_in i = 2 + 8 * i

unfoldable pub head_line : List ℕ → ℕ → Line
head_line bs i = record { point = byte_at bs (head_in i); set = byte_at bs (head_in i + 1); label = byte_at bs (head_in i + 2); wait = long_at bs (head_in i + 4) }

unfoldable pub head_rule : List ℕ → ℕ → ℕ
head_rule bs i = byte_at bs (head_in i + 3)

-- 10.2, 10.3: where its ground stands, and its parts: row, first parent, second parent, 16 bits each
unfoldable pub ground_at : List ℕ → ℕ → ℕ
ground_at bs i = 2 + 8 * line_count bs + 6 * i

unfoldable pub row_of : List ℕ → ℕ → ℕ
row_of bs i = word_at bs (ground_at bs i)

unfoldable pub first_parent : List ℕ → ℕ → ℕ
first_parent bs i = word_at bs (ground_at bs i + 2)

unfoldable pub second_parent : List ℕ → ℕ → ℕ
second_parent bs i = word_at bs (ground_at bs i + 4)

-- 10.11: the lines of a listing, read from its heads
abbrev pub lines_in : List ℕ → List Line
lines_in bs = map (head_line bs) (below (line_count bs))

-- ---- rules, rows and parents by their numbers
-- 10.3: the edges of links, counted from 0: link i's are 2i, its upper bound, and 2i + 1, its lower bound
abbrev pub bound_of : ℕ → Edge
bound_of b = cond (eqb (b % 2) 0) (UpperBound (b / 2)) (LowerBound (b / 2))

abbrev pub bound_rule : Plan → ℕ → Option Rule
bound_rule P b = then_some (ltb (b / 2) P.links) (Propagation (bound_of b))

-- 10.3: the row of rule 1: a plan edge below e, none at e, the horizon edge to Y at e + Y, and from e + n on the edges of links
abbrev pub edge_rule : Plan → ℕ → Option Rule
edge_rule P row =
    cond (ltb row P.edges) (Some (Propagation (PlanEdge row)))
    (cond (eqb row P.edges) None
    (cond (ltb row (P.edges + P.points)) (Some (Propagation (HorizonEdge (row - P.edges))))
    (bound_rule P (row - (P.edges + P.points)))))

-- 10.3: the rule of that number with its row, if both are in range
abbrev pub rule_of : Plan → ℕ → ℕ → Option Rule
rule_of P zero row = None
rule_of P (suc zero) row = edge_rule P row
rule_of P (suc (suc zero)) row = then_some (ltb row P.links) (LowerCase row)
rule_of P (suc (suc (suc zero))) row = then_some (ltb row P.links) (UpperCase row)
rule_of P (suc (suc (suc (suc zero)))) row = then_some (ltb row P.links) (LetterRemoval row)
rule_of P (suc (suc (suc (suc (suc zero))))) row = then_some (ltb row P.propositions) (OwnLiteral row)
rule_of P (suc (suc (suc (suc (suc (suc zero)))))) row = then_some (ltb row P.propositions) (LiteralRemoval row)
rule_of P (suc (suc (suc (suc (suc (suc (suc r))))))) row = None

-- 10.3: the line that a parent's number names: a starting line below n, else a line of the listing
abbrev pub parent_line : Plan → List ℕ → ℕ → Line
parent_line P bs q = cond (ltb q P.points) (starting_line q) (head_line bs (q - P.points))
