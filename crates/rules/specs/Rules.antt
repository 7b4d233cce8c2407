-- The six rules (6): when a rule with its row fires on two lines as its parents, and the line that it then gives.
-- A rule of one parent ignores the second.
use Rattle.std.specs.Prelude.{Bool, true, false, not, ◌&&◌, ℕ, ◌+◌, ◌-◌, min, ltb, eqb}
use Rattle.plan.specs.Label.{digit, join, plain, clear_digit}
use Rattle.plan.specs.LinkSet.{contains, union, insert, remove}
use Rattle.plan.specs.Plan.{Plan}
use Rattle.rules.specs.declared.Line.{Line}
use Rattle.rules.specs.declared.Edge.{Edge}
use Rattle.rules.specs.declared.Edge.TheVariants.{PlanEdge, HorizonEdge, UpperBound, LowerBound}
use Rattle.rules.specs.declared.Constraint.{Constraint}
use Rattle.rules.specs.declared.Rule.{Rule}
use Rattle.rules.specs.declared.Rule.TheVariants.{Propagation, LowerCase, UpperCase, LetterRemoval, OwnLiteral, LiteralRemoval}

-- ---- 6.7: what each edge of rule 1 says. The record Constraint is the code's struct: to - from ≤ up - down under a label.
abbrev pub constraint_of : Plan → Edge → Constraint
constraint_of P (PlanEdge i) = record { from = P.from i; to = P.to i; label = P.label i; up = P.up i; down = P.down i }
constraint_of P (HorizonEdge x) = record { from = 0; to = x; label = 0; up = P.horizon; down = 0 }
constraint_of P (UpperBound i) = record { from = P.activation i; to = P.finish i; label = 0; up = P.most i; down = 0 }
constraint_of P (LowerBound i) = record { from = P.finish i; to = P.activation i; label = 0; up = 0; down = P.least i }

-- 6.1: w - u, and 0 where that is not above 0
abbrev pub less_weight : Constraint → ℕ → ℕ
less_weight c w = w + c.down - c.up

-- ---- the rules: first parent l, second m
abbrev pub fires : Plan → Rule → Line → Line → Bool
-- 6.1 (zLp/Nc/Uc): a line of Y with a plain label, over an edge from X to Y; the join is plain, and the wait less the weight is above 0
fires P (Propagation e) l m =
    eqb l.point (constraint_of P e).to && plain P.propositions l.label
    && plain P.propositions (join P.propositions (constraint_of P e).label l.label) && ltb 0 (less_weight (constraint_of P e) l.wait)
-- 6.2 (zLc/Cc): a line of C without its link and with a plain label, whose wait is above s
fires P (LowerCase i) l m =
    eqb l.point (P.finish i) && not (contains l.set i) && plain P.propositions l.label
    && ltb 0 (l.wait - P.least i)
-- 6.3 (z!): a line of A with a plain label
fires P (UpperCase i) l m = eqb l.point (P.activation i) && plain P.propositions l.label
-- 6.4 (zLr): a line with the link, and one of A without it
fires P (LetterRemoval i) l m = contains l.set i && eqb m.point (P.activation i) && not (contains m.set i)
-- 6.5 (zqR0): a line of the observing point that waits, its own digit not 0
fires P (OwnLiteral j) l m = eqb l.point (P.observer j) && not (eqb (digit l.label j) 0) && ltb 0 l.wait
-- 6.6 (zqR3*): a line whose digit j is not 0, and one of j's observing point that waits, its digit j 0
fires P (LiteralRemoval j) l m =
    not (eqb (digit l.label j) 0) && eqb m.point (P.observer j) && eqb (digit m.label j) 0 && ltb 0 m.wait

-- the rules that look at the second parent, 4 and 6
abbrev pub uses_second : Rule → Bool
uses_second (Propagation e) = false
uses_second (LowerCase i) = false
uses_second (UpperCase i) = false
uses_second (LetterRemoval i) = true
uses_second (OwnLiteral j) = false
uses_second (LiteralRemoval j) = true

abbrev pub result : Plan → Rule → Line → Line → Line
-- 6.1: X waits w - u, the same set, the joined label
result P (Propagation e) l m = record { point = (constraint_of P e).from; set = l.set; label = join P.propositions (constraint_of P e).label l.label; wait = less_weight (constraint_of P e) l.wait }
-- 6.2: A waits w - s, the same set and label
result P (LowerCase i) l m = record { point = P.activation i; set = l.set; label = l.label; wait = l.wait - P.least i }
-- 6.3: C waits w + y, the set with the link added, the same label
result P (UpperCase i) l m = record { point = P.finish i; set = insert l.set i; label = l.label; wait = l.wait + P.most i }
-- 6.4: the lesser of w and a + s, the sets united without the link, the labels joined
result P (LetterRemoval i) l m = record { point = l.point; set = union (remove l.set i) m.set; label = join P.propositions l.label m.label; wait = min l.wait (m.wait + P.least i) }
-- 6.5: the same line with its digit j cleared
result P (OwnLiteral j) l m = record { point = l.point; set = l.set; label = clear_digit l.label j; wait = l.wait }
-- 6.6: the lesser of w and q, the sets united, the labels joined once Y's digit j is cleared
result P (LiteralRemoval j) l m = record { point = l.point; set = union l.set m.set; label = join P.propositions (clear_digit l.label j) m.label; wait = min l.wait m.wait }
