-- Tables (5.4) and one round (8.2). A table is any list of cells.
use Rattle.std.specs.Prelude.{cond, List, [], ◌∷◌, ◌++◌, map, ℕ, ◌-◌, max, ltb, get_or, set}
use Rattle.plan.specs.Plan.{Plan, cells}
use Rattle.rules.specs.declared.Line.{Line}
use Rattle.rules.specs.declared.Edge.{Edge}
use Rattle.rules.specs.declared.Edge.TheVariants.{PlanEdge, HorizonEdge, UpperBound, LowerBound}
use Rattle.rules.specs.declared.Rule.{Rule}
use Rattle.rules.specs.declared.Rule.TheVariants.{Propagation, LowerCase, UpperCase, LetterRemoval, OwnLiteral, LiteralRemoval}
use Rattle.rules.specs.Lines.{from_to, below, cell_of, line_at, starting_line, starting}
use Rattle.rules.specs.Rules.{fires, result}

abbrev pub each {ℓ κ} : {A : Type ℓ} {B : Type κ} → List A → (A → List B) → List B
each [] f = []
each (x ∷ xs) f = f x ++ each xs f

-- 5.4: the lines of a table: the starting lines, and a line for each cell above 0
abbrev pub lines_of : Plan → List ℕ → List Line
lines_of P T = starting P ++ each (below (cells P)) (λ c. cond (ltb 0 (get_or T c 0)) (line_at P T c ∷ []) [])

-- 6.7: the edges of rule 1
abbrev pub edges_of : Plan → List Edge
edges_of P =
    map PlanEdge (below P.edges) ++ (map HorizonEdge (from_to 1 (P.points - 1))
    ++ (map UpperBound (below P.links) ++ map LowerBound (below P.links)))

-- 8.2: the rules of a plan, a rule for each of its rows
abbrev pub rules_of : Plan → List Rule
rules_of P =
    map Propagation (edges_of P)
    ++ (map LowerCase (below P.links) ++ (map UpperCase (below P.links) ++ (map LetterRemoval (below P.links)
    ++ (map OwnLiteral (below P.propositions) ++ map LiteralRemoval (below P.propositions)))))

-- 8.2: the second parents to try: any one for a rule that ignores it
abbrev pub seconds_of : List Line → Rule → List Line
seconds_of ls (Propagation e) = starting_line 0 ∷ []
seconds_of ls (LowerCase i) = starting_line 0 ∷ []
seconds_of ls (UpperCase i) = starting_line 0 ∷ []
seconds_of ls (LetterRemoval i) = ls
seconds_of ls (OwnLiteral j) = starting_line 0 ∷ []
seconds_of ls (LiteralRemoval j) = ls

-- 8.2: all that the rules of a plan give from lines
abbrev pub all_given : Plan → List Line → List Line
all_given P ls =
    each (rules_of P) (λ r. each ls (λ l. each (seconds_of ls r) (λ m. cond (fires P r l m) (result P r l m ∷ []) [])))

-- 8.2: a table with cell c raised to w, unless it holds more
unfoldable pub raise_cell : ℕ → ℕ → List ℕ → List ℕ
raise_cell c w T = set T c (max (get_or T c 0) w)

-- 8.2: a table with each line's cell raised to the line's wait
abbrev pub raised : Plan → List ℕ → List Line → List ℕ
raised P T [] = T
raised P T (l ∷ ls) = raised P (raise_cell (cell_of P l) l.wait T) ls

-- 8.2: one round: cell by cell, the largest of the table and all that the rules give from the table alone
unfoldable pub next : Plan → List ℕ → List ℕ
next P T = raised P T (all_given P (lines_of P T))
