-- For inner contracts only: what applying a rule is lent, and rule 1 along an edge. Nothing here is to be believed.
use Rattle.std.specs.Prelude.{◌≡◌, ◌&&◌, List, ℕ, ◌^◌, ◌≤◌, ◌<◌, ltb, eqb, Option}
use Rattle.std.specs.Bool.{then_some}
use Rattle.plan.specs.Label.{join, plain, Marks}
use Rattle.plan.specs.Plan.{Plan}
use Rattle.plan.specs.Layout.{plan_of}
use Rattle.plan.specs.Refusal.{Accepted}
use Rattle.rules.specs.declared.Line.{Line}
use Rattle.rules.specs.declared.Constraint.{Constraint}
use Rattle.rules.specs.declared.Rule.{Rule}
use Rattle.rules.specs.Rules.{less_weight}
use Rattle.rules.specs.Derivations.{InPlan}

-- rule 1 along an edge that says c, where there are p propositions
abbrev pub along_edge : ℕ → Constraint → Line → Option Line
along_edge p c l =
    then_some (eqb l.point c.to && plain p l.label && plain p (join p c.label l.label) && ltb 0 (less_weight c l.wait))
    (record { point = c.from; set = l.set; label = join p c.label l.label; wait = less_weight c l.wait })

-- r is that, however many propositions there are, up to four
abbrev pub Along : Constraint → Line → Option Line → Type 0
Along c l r = (p : ℕ) → p ≤ 4 → c.label < 4 ^ p → l.label < 4 ^ p → r ≡ along_edge p c l

-- a line that the code applies a rule to: its label has p digits, and a duration can be added to its wait in 64 bits
pub record InLabels (P : Plan) (l : Line) : Type 0 where
  pub label_in : l.label < 4 ^ P.propositions
  pub wait_in : l.wait < 4611686018427387904

-- the same where there are at most four propositions, so that the label is a byte
pub record InByte (P : Plan) (l : Line) : Type 0 where
  pub in_labels : InLabels P l
  pub few : P.propositions ≤ 4
  pub label_byte : l.label < 256

-- what applying a rule is lent: an accepted plan, the marks, the plan's horizon, a rule with a row of the plan, and two such lines
pub record Applicable (plan marks : List ℕ) (horizon : ℕ) (by : Rule) (first second : Line) : Type 0 where
  pub accepted : Accepted plan
  pub marked : Marks marks
  pub horizon_is : horizon ≡ (plan_of plan).horizon
  pub row : InPlan (plan_of plan) by
  pub first_in : InLabels (plan_of plan) first
  pub second_in : InLabels (plan_of plan) second
