-- A longer wait of a parent gives a line of the same cell with a wait no shorter.
use mathlib.Core.Path.{◌≡◌, refl, sym, subst}
use mathlib.Core.Logic.{inl, inr}
use Prim.Native.Nat.{ℕ, ◌≤◌}
use native.Mathlib.Nat.{le_refl, le_trans}
use native.Mathlib.Omega.{arith}
use Rattle.plan.specs.Plan.{Plan}
use Rattle.rules.specs.declared.Line.{Line}
use Rattle.rules.specs.declared.Constraint.{Constraint}
use Rattle.rules.specs.declared.Rule.{Rule}
use Rattle.rules.specs.declared.Rule.TheVariants.{Propagation, LowerCase, UpperCase, LetterRemoval, OwnLiteral, LiteralRemoval}
use Rattle.rules.specs.Rules.{constraint_of, less_weight, result}
use Rattle.rules.specs.Derivations.{Parent, Given}
use Rattle.rules.proofs.Deriving.{Fires, facts_fire, given_fires}

-- the line of the same cell that waits w
abbrev pub waiting : Line → ℕ → Line
waiting l w = record { point = l.point; set = l.set; label = l.label; wait = w }

less_mono : (c : Constraint) (v w : ℕ) → v ≤ w → less_weight c v ≤ less_weight c w
less_mono c v w h = omega arith

module _ (P : Plan) where
  pub fires_mono : (r : Rule) (l m : Line) (v w : ℕ) → l.wait ≤ v → m.wait ≤ w → Fires P r l m → Fires P r (waiting l v) (waiting m w)
  fires_mono (Propagation e) l m v w h k t = (t.0, t.1, t.2, le_trans t.3 (less_mono (constraint_of P e) _ _ h))
  fires_mono (LowerCase i) l m v w h k t = (t.0, t.1, t.2, omega arith)
  fires_mono (UpperCase i) l m v w h k t = t
  fires_mono (LetterRemoval i) l m v w h k t = t
  fires_mono (OwnLiteral j) l m v w h k t = (t.0, t.1, le_trans t.2 h)
  fires_mono (LiteralRemoval j) l m v w h k t = (t.0, t.1, t.2, le_trans t.3 k)

  pub result_mono : (r : Rule) (l m : Line) (v w : ℕ) → l.wait ≤ v → m.wait ≤ w → (result P r l m).wait ≤ (result P r (waiting l v) (waiting m w)).wait
  result_mono (Propagation e) l m v w h k = less_mono (constraint_of P e) _ _ h
  result_mono (LowerCase i) l m v w h k = omega arith
  result_mono (UpperCase i) l m v w h k = omega arith
  result_mono (LetterRemoval i) l m v w h k = omega arith
  result_mono (OwnLiteral j) l m v w h k = h
  result_mono (LiteralRemoval j) l m v w h k = omega arith

  -- the cell does not depend on the waits
  pub result_cell : (r : Rule) (l m : Line) (v w : ℕ) → waiting (result P r l m) (result P r (waiting l v) (waiting m w)).wait ≡ result P r (waiting l v) (waiting m w)
  result_cell (Propagation e) l m v w = refl
  result_cell (LowerCase i) l m v w = refl
  result_cell (UpperCase i) l m v w = refl
  result_cell (LetterRemoval i) l m v w = refl
  result_cell (OwnLiteral j) l m v w = refl
  result_cell (LiteralRemoval j) l m v w = refl

  -- a line that G holds of, of the same cell, that waits as long or longer
  pub record Longer (G : Line → Type 0) (l : Line) : Type 0 where
    pub to : ℕ
    pub no_less : l.wait ≤ to
    pub holds : G (waiting l to)

  module _ (H G : Line → Type 0) (longer : (l : Line) → H l → Longer G l) where
    parent_mono : (l : Line) → Parent P H l → Longer (Parent P G) l
    parent_mono l (inl s) = record { to = l.wait; no_less = le_refl _; holds = inl s }
    parent_mono l (inr h) = record { to = (longer l h).to; no_less = (longer l h).no_less; holds = inr (longer l h).holds }

    pub given_mono : (k : Line) → Given P H k → Longer (Given P G) k
    given_mono k g = subst (Longer (Given P G)) g.gave (record {
      to = (result P g.rule first second).wait;
      no_less = result_mono g.rule g.first g.second a.to b.to a.no_less b.no_less;
      holds = record {
        rule = g.rule;
        row = g.row;
        first = first;
        second = second;
        first_is = a.holds;
        second_is = b.holds;
        fire = facts_fire P g.rule first second (fires_mono g.rule g.first g.second a.to b.to a.no_less b.no_less (given_fires g));
        gave = sym (result_cell g.rule g.first g.second a.to b.to);
      };
    })
      where
        a : Longer (Parent P G) g.first
        a = parent_mono g.first g.first_is

        b : Longer (Parent P G) g.second
        b = parent_mono g.second g.second_is

        first : Line
        first = waiting g.first a.to

        second : Line
        second = waiting g.second b.to
