-- Whatever the rules give lies in the table and waits longer than 0, and a parent with a link or a digit is no starting line.
use mathlib.Core.Path.{subst}
use mathlib.Core.Bool.{not}
use mathlib.Core.Logic.{inl, inr}
use Prim.Native.Nat.{ℕ, ◌/◌, ◌%◌, ◌^◌, ◌≤◌, ◌<◌}
use native.Mathlib.Nat.{zero-div}
use native.Mathlib.Omega.{arith}
use lib.Dec.{T as Is, eqb, T_not, eqb→eq}
use lib.Bits.{or_lt}
use lib.Pow.{pow_pos}
use Rattle.plan.specs.Label.{digit}
use Rattle.plan.specs.LinkSet.{contains, union}
use Rattle.plan.specs.Plan.{Plan}
use Rattle.plan.specs.Horizons.{with_horizon}
use Rattle.plan.proofs.Digits.{insert_in, remove_in_lem}
use Rattle.plan.proofs.LabelLaws.{four_pos, clear_le, digit_none, join_lt}
use Rattle.plan.proofs.Ranges.{WellFormed}
use Rattle.rules.specs.declared.Line.{Line}
use Rattle.rules.specs.declared.Edge.{Edge}
use Rattle.rules.specs.declared.Edge.TheVariants.{PlanEdge, HorizonEdge, UpperBound, LowerBound}
use Rattle.rules.specs.declared.Constraint.{Constraint}
use Rattle.rules.specs.declared.Rule.{Rule}
use Rattle.rules.specs.declared.Rule.TheVariants.{Propagation, LowerCase, UpperCase, LetterRemoval, OwnLiteral, LiteralRemoval}
use Rattle.rules.specs.Rules.{constraint_of, result}
use Rattle.rules.specs.Derivations.{Starting, InPlan, Parent, Given}
use Rattle.rules.proofs.Deriving.{Fires, given_fires, no_set, no_label}

pub record InRange (P : Plan) (l : Line) : Type 0 where
  pub point_in : l.point < P.points
  pub set_in : l.set < 2 ^ P.links
  pub label_in : l.label < 4 ^ P.propositions

-- what is asked of any edge of rule 1: its ends are points of the plan, its label has p digits, and rule 1 adds M at most
pub record ConstraintIn (P : Plan) (c : Constraint) : Type 0 where
  pub from_in : c.from < P.points
  pub to_in : c.to < P.points
  pub label_in : c.label < 4 ^ P.propositions
  pub down_le : c.down ≤ P.largest

module _ (P : Plan) (wf : WellFormed P) where
  -- whatever the horizon is
  pub edge_within : (z : ℕ) (e : Edge) → InPlan P (Propagation e) → ConstraintIn P (constraint_of (with_horizon P z) e)
  edge_within z (PlanEdge i) h = record { from_in = wf.from_in i h; to_in = wf.to_in i h; label_in = wf.label_in i h; down_le = wf.down_le i h }
  edge_within z (HorizonEdge x) h = record { from_in = omega (arith, wf.two); to_in = h.1; label_in = four_pos _; down_le = omega arith }
  edge_within z (UpperBound i) h = record { from_in = wf.activation_in i h; to_in = (wf.finish_in i h).1; label_in = four_pos _; down_le = omega arith }
  edge_within z (LowerBound i) h = record { from_in = (wf.finish_in i h).1; to_in = wf.activation_in i h; label_in = four_pos _; down_le = omega (arith, wf.durations i h, wf.most_le i h) }

  pub edge_range : (e : Edge) → InPlan P (Propagation e) → ConstraintIn P (constraint_of P e)
  edge_range = edge_within P.horizon

  pub result_range : (r : Rule) → InPlan P r → (l m : Line) → InRange P l → InRange P m → InRange P (result P r l m)
  unfolding union
  result_range (Propagation e) h l m a b = record { point_in = (edge_range e h).from_in; set_in = a.set_in; label_in = join_lt _ _ _ }
  result_range (LowerCase i) h l m a b = record { point_in = wf.activation_in i h; set_in = a.set_in; label_in = a.label_in }
  result_range (UpperCase i) h l m a b = record { point_in = (wf.finish_in i h).1; set_in = insert_in _ _ i a.set_in h; label_in = a.label_in }
  result_range (LetterRemoval i) h l m a b = record { point_in = a.point_in; set_in = or_lt _ _ _ (remove_in_lem _ l.set i a.set_in) b.set_in; label_in = join_lt _ _ _ }
  result_range (OwnLiteral j) h l m a b = record { point_in = a.point_in; set_in = a.set_in; label_in = omega (arith, a.label_in, clear_le l.label j) }
  result_range (LiteralRemoval j) h l m a b = record { point_in = a.point_in; set_in = or_lt _ _ _ a.set_in b.set_in; label_in = join_lt _ _ _ }

  pub start_range : {l : Line} → Starting P l → InRange P l
  start_range s = record { point_in = s.inside; set_in = rw (no_set s) (pow_pos _); label_in = rw (no_label s) (four_pos _) }

  pub range : {H : Line → Type 0} → ((l : Line) → H l → InRange P l) → {k : Line} → Given P H k → InRange P k
  range {H} f g = subst (InRange P) g.gave (result_range g.rule g.row g.first g.second (of g.first_is) (of g.second_is))
    where
      of : {l : Line} → Parent P H l → InRange P l
      of (inl s) = start_range s
      of {l} (inr h) = f l h

-- no link is in the empty set, and no digit of the empty label is above 0
pub none_in : (i : ℕ) → Is (contains 0 i) → ⊥
unfolding contains
none_in i t = omega (arith, eqb→eq (0 / 2 ^ i % 2) 1 t, zero-div (2 ^ i))

pub no_digit : (j : ℕ) → Is (not (eqb (digit 0 j) 0)) → ⊥
no_digit j t = T_not (eqb (digit 0 j) 0) t (rw digit_none tt)

-- a parent with a link in its set, or a digit above 0, is no starting line
pub held_set : {P : Plan} (H : Line → Type 0) (l : Line) (i : ℕ) → Is (contains l.set i) → Parent P H l → H l
held_set H l i t (inl s) = absurd (none_in i (rw (no_set s) at t))
held_set H l i t (inr h) = h

pub held_label : {P : Plan} (H : Line → Type 0) (l : Line) (j : ℕ) → Is (not (eqb (digit l.label j) 0)) → Parent P H l → H l
held_label H l j t (inl s) = absurd (no_digit j (rw (no_label s) at t))
held_label H l j t (inr h) = h

-- every line that the rules give waits longer than 0
module _ (P : Plan) (wf : WellFormed P) (H : Line → Type 0) (above : (l : Line) → H l → 0 < l.wait) where
  pub fires_above : (r : Rule) → InPlan P r → (l m : Line) → Parent P H l → Parent P H m → Fires P r l m → 0 < (result P r l m).wait
  fires_above (Propagation e) h l m a b t = t.3
  fires_above (LowerCase i) h l m a b t = t.3
  fires_above (UpperCase i) h l m a b t = omega (arith, wf.durations i h)
  fires_above (LetterRemoval i) h l m a b t = omega (arith, wf.durations i h, above l (held_set H l i t.0 a))
  fires_above (OwnLiteral j) h l m a b t = t.2
  fires_above (LiteralRemoval j) h l m a b t = omega (arith, t.3, above l (held_label H l j t.0 a))

  pub given_above : {k : Line} → Given P H k → 0 < k.wait
  given_above g = subst (λ (k : Line). 0 < k.wait) g.gave (fires_above g.rule g.row g.first g.second g.first_is g.second_is (given_fires g))
