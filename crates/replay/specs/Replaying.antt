-- Replay (11): 0, or the number of the first refusal that applies.
use Rattle.std.specs.Prelude.{Bool, cond, not, Option, None, Some, ◌&&◌, ◌||◌, List, ℕ, zero, suc, ◌+◌, ◌-◌, ◌*◌, ◌^◌, ltb, leb, eqb, length}
use Rattle.plan.specs.Label.{plain}
use Rattle.plan.specs.Plan.{Plan}
use Rattle.plan.specs.Layout.{plan_of}
use Rattle.plan.specs.Refusal.{refusal}
use Rattle.rules.specs.declared.Line.{Line}
use Rattle.rules.specs.declared.Rule.{Rule}
use Rattle.rules_apply.specs.Applying.{gives_line_of}
use Rattle.rules.specs.Rules.{uses_second}
use Rattle.replay.specs.Listings.{line_count, head_line, head_rule, row_of, first_parent, second_parent, rule_of, parent_line}

-- 11.2: the bytes are laid out as a listing
unfoldable pub laid_out : List ℕ → Bool
laid_out bs = leb 2 (length bs) && leb 1 (line_count bs) && leb (line_count bs) 4096 && eqb (length bs) (2 + 14 * line_count bs)

-- 11.3: point, set and label are in range
unfoldable pub in_range : Plan → Line → Bool
in_range P l = ltb l.point P.points && ltb l.set (2 ^ P.links) && ltb l.label (4 ^ P.propositions)

-- 11.3: every parent that the rule uses is a starting line or an earlier line
unfoldable pub parents_known : Plan → List ℕ → ℕ → Rule → Bool
parents_known P bs i r = ltb (first_parent bs i) (P.points + i) && (not (uses_second r) || ltb (second_parent bs i) (P.points + i))

-- 11.4: the line is what its rule gives from its parents, and a second parent that the rule does not use is 0
unfoldable pub follows : Plan → List ℕ → ℕ → Rule → Bool
follows P bs i r =
    (uses_second r || eqb (second_parent bs i) 0)
    && gives_line_of P r (parent_line P bs (first_parent bs i)) (parent_line P bs (second_parent bs i)) (head_line bs i)

-- 11.3, 11.4: 9 and 10 of line i, by its rule
abbrev pub judge_rule : Plan → List ℕ → ℕ → Option Rule → ℕ
judge_rule P bs i None = 9
judge_rule P bs i (Some r) = cond (not (parents_known P bs i r)) 9 (cond (not (follows P bs i r)) 10 0)

-- 11.3, 11.4: 9 and 10 of line i
unfoldable pub judge_line : Plan → List ℕ → ℕ → ℕ
judge_line P bs i = cond (not (in_range P (head_line bs i))) 9 (judge_rule P bs i (rule_of P (head_rule bs i) (row_of bs i)))

-- the first refusal of two
abbrev pub or_else : ℕ → ℕ → ℕ
or_else v w = cond (eqb v 0) w v

-- 11.6: the first refusal of lines 0 .. m - 1
unfoldable pub judge_lines : Plan → List ℕ → ℕ → ℕ
judge_lines P bs zero = 0
judge_lines P bs (suc m) = or_else (judge_lines P bs m) (judge_line P bs m)

-- 11.5: the last line makes the first alarm wait for itself, or 11
unfoldable pub judge_last : Plan → Line → ℕ
judge_last P l = cond (eqb l.point 0 && plain P.propositions l.label) 0 11

-- 11.6: the lines, then the last line
unfoldable pub judge_listing : Plan → List ℕ → ℕ
judge_listing P bs = or_else (judge_lines P bs (line_count bs)) (judge_last P (head_line bs (line_count bs - 1)))

-- 11.6: the plan, the layout, the lines, the last line
unfoldable pub replay : List ℕ → List ℕ → ℕ
replay plan bs = or_else (refusal plan) (or_else (cond (laid_out bs) 0 8) (judge_listing (plan_of plan) bs))
