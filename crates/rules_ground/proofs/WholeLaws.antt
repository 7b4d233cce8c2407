-- A ground is by an edge, a horizon edge, a link or a proposition, so where no search of these finds one there is none.
use mathlib.Core.Logic.{inl, inr}
use mathlib.Core.List.{List}
use Prim.Native.Nat.{ℕ}
use native.Mathlib.Omega.{arith}
use Rattle.std.specs.Prelude.{Option, Some, None}
use Rattle.plan.specs.Plan.{Plan}
use Rattle.rules.specs.declared.Line.{Line}
use Rattle.rules.specs.declared.Ground.{Ground}
use Rattle.rules.specs.declared.Edge.TheVariants.{PlanEdge, HorizonEdge, UpperBound, LowerBound}
use Rattle.rules.specs.declared.Rule.{Rule}
use Rattle.rules.specs.declared.Rule.TheVariants.{Propagation, LowerCase, UpperCase, LetterRemoval, OwnLiteral, LiteralRemoval}
use Rattle.rules_ground.specs.Grounds.{Tells}
use Rattle.rules_ground.specs.Searching.{Answers, SecondAt, ByRule, ByEdges, ByHorizonEdges, ByLinks, ByPropositions}

module _ (P : Plan) (T : List ℕ) (k : Line) where
  by_rule_lem : (r : Rule) (c d : ℕ) → SecondAt P T k r c d → ByRule r P T k
  by_rule_lem r c d g = record { first = c; at_first = record { second = d; ground = g } }

  none_at_all : (ByEdges P T k → ⊥) → (ByHorizonEdges P T k → ⊥) → (ByLinks P T k → ⊥) → (ByPropositions P T k → ⊥) → (r : Rule) (c d : ℕ) → SecondAt P T k r c d → ⊥
  none_at_all e h l p (Propagation (PlanEdge i)) c d g = e (record { index = i; from = omega arith; below = g.row; holds = by_rule_lem (Propagation (PlanEdge i)) c d g })
  none_at_all e h l p (Propagation (HorizonEdge x)) c d g = h (record { index = x; from = g.row.0; below = g.row.1; holds = by_rule_lem (Propagation (HorizonEdge x)) c d g })
  none_at_all e h l p (Propagation (UpperBound i)) c d g = l (record { index = i; from = omega arith; below = g.row; holds = inl (inl (by_rule_lem (Propagation (UpperBound i)) c d g)) })
  none_at_all e h l p (Propagation (LowerBound i)) c d g = l (record { index = i; from = omega arith; below = g.row; holds = inr (inl (inl (by_rule_lem (Propagation (LowerBound i)) c d g))) })
  none_at_all e h l p (LowerCase i) c d g = l (record { index = i; from = omega arith; below = g.row; holds = inl (inr (by_rule_lem (LowerCase i) c d g)) })
  none_at_all e h l p (UpperCase i) c d g = l (record { index = i; from = omega arith; below = g.row; holds = inr (inl (inr (by_rule_lem (UpperCase i) c d g))) })
  none_at_all e h l p (LetterRemoval i) c d g = l (record { index = i; from = omega arith; below = g.row; holds = inr (inr (by_rule_lem (LetterRemoval i) c d g)) })
  none_at_all e h l p (OwnLiteral j) c d g = p (record { index = j; from = omega arith; below = g.row; holds = inl (by_rule_lem (OwnLiteral j) c d g) })
  none_at_all e h l p (LiteralRemoval j) c d g = p (record { index = j; from = omega arith; below = g.row; holds = inr (by_rule_lem (LiteralRemoval j) c d g) })

  pub tells_all : (f : Option Ground) → (ByEdges P T k → ⊥) → (ByHorizonEdges P T k → ⊥) → (ByLinks P T k → ⊥) → Answers P T k (ByPropositions P T k) f → Tells P T k f
  tells_all (Some g) e h l a = a.tells
  tells_all None e h l a = λ g. none_at_all e h l a.tells g.by g.first g.second
