-- The first line of Z is plain, and until there is one the waits are bounded.
use mathlib.Core.Path.{◌≡◌, refl, sym, ap, subst, ◌∙◌}
use mathlib.Core.Bool.{Bool, true, false, not}
use mathlib.Core.Logic.{◌⊎◌, inl, inr, ◌≢◌}
use mathlib.Core.List.{List}
use Prim.Native.Nat.{ℕ, ◌+◌, ◌≤◌, ◌<◌}
use native.Mathlib.Decide.{dec_le}
use native.Mathlib.Omega.{arith}
use lib.Dec.{T as Is, T_not}
use Rattle.plan.specs.Label.{join, plain}
use Rattle.plan.specs.Plan.{Plan}
use Rattle.plan.proofs.LabelLaws.{join_none}
use Rattle.plan.proofs.Ranges.{WellFormed}
use Rattle.rules.specs.declared.Line.{Line}
use Rattle.rules.specs.declared.Edge.TheVariants.{HorizonEdge}
use Rattle.rules.specs.declared.Rule.{Rule}
use Rattle.rules.specs.declared.Rule.TheVariants.{Propagation, LowerCase, UpperCase, LetterRemoval, OwnLiteral, LiteralRemoval}
use Rattle.rules.specs.Lines.{cell_of, starting_line}
use Rattle.rules.specs.Rules.{result}
use Rattle.rules.specs.Derivations.{InPlan, Parent, Given}
use Rattle.rules.proofs.Deriving.{Fires, facts_fire, given_fires, no_wait}
use Rattle.rules.proofs.InRange.{range, held_set, held_label}
use Rattle.rules.proofs.Next.{Cell, IsNext, first_starts}
use Rattle.rules.proofs.FirstAlarm.{Quiet, first_cell, quiet_no_line}
use Rattle.rules.proofs.Sound.{next_cases}
use Rattle.rules.proofs.Growth.{result_more}

module _ (P : Plan) where
  -- the lines that are not plain wait no longer than the horizon
  abbrev pub Low : List ℕ → Type 0
  Low A = (l : Line) → Cell P A l → Is (not (plain P.propositions l.label)) → l.wait ≤ P.horizon

  module _ (wf : WellFormed P) (A : List ℕ) (q : Quiet P A) where
    result_plain : (r : Rule) → InPlan P r → (l m : Line) → Parent P (Cell P A) l → Fires P r l m → (result P r l m).point ≡ 0 → Is (plain P.propositions (result P r l m).label)
    result_plain (Propagation e) h l m a f z = f.2
    result_plain (LowerCase i) h l m a f z = f.2
    result_plain (UpperCase i) h l m a f z = f.1
    result_plain (LetterRemoval i) h l m a f z = absurd (quiet_no_line P A q l (held_set (Cell P A) l i f.0 a) z)
    result_plain (OwnLiteral j) h l m a f z = absurd (omega (arith, wf.observer_in j h, f.0))
    result_plain (LiteralRemoval j) h l m a f z = absurd (quiet_no_line P A q l (held_label (Cell P A) l j f.0 a) z)

    -- where no cell of Z is above 0, the lines of Z that the rules give are plain
    pub given_plain : (k : Line) → Given P (Cell P A) k → k.point ≡ 0 → Is (plain P.propositions k.label)
    given_plain k g z = subst (λ (x : Line). Is (plain P.propositions x.label)) g.gave (result_plain g.rule g.row g.first g.second g.first_is (given_fires g) (ap (λ (x : Line). x.point) g.gave ∙ z))

    module _ (B : List ℕ) (n : IsNext P A B) (qB : Quiet P B) where
      -- a plain line that waits longer than the horizon makes Z wait in the next table
      plain_low : (l : Line) → Cell P A l → Is (plain P.propositions l.label) → l.wait ≤ P.horizon
      plain_low l c pl = go (dec_le l.wait P.horizon)
        where
          go : Dec (l.wait ≤ P.horizon) → l.wait ≤ P.horizon
          go (yes h) = h
          go (no h) =
              let ne : l.point ≢ 0 = quiet_no_line P A q l c in
              let z : 0 < P.points = omega (arith, wf.two) in
              let e : join P.propositions 0 l.label ≡ l.label = join_none P.propositions l.label c.inside.label_in in
              let r : Rule = Propagation (HorizonEdge l.point) in
              let k : Line = result P r l (starting_line 0) in
              let g : Given P (Cell P A) k = record { rule = r; row = (omega arith, c.inside.point_in); first = l; second = starting_line 0; first_is = inr c; second_is = inl (first_starts P z); fire = facts_fire P r l (starting_line 0) (refl, pl, rw e pl, omega arith); gave = refl } in
              omega (arith, qB (cell_of P k) (first_cell P k (range P wf (λ l c. c.inside) g) refl), n.covers k g)

      module _ (low : Low A) where
        all_low : (l : Line) → Cell P A l → l.wait ≤ P.horizon
        all_low l c = go (plain P.propositions l.label) refl
          where
            go : (b : Bool) → plain P.propositions l.label ≡ b → l.wait ≤ P.horizon
            go true e = plain_low l c (rw e tt)
            go false e = low l c (rw e tt)

        parent_low : (l : Line) → Parent P (Cell P A) l → l.wait ≤ P.horizon
        parent_low l (inl s) = omega (arith, no_wait s)
        parent_low l (inr c) = all_low l c

        result_low : (r : Rule) (l m : Line) → Parent P (Cell P A) l → Fires P r l m → Is (not (plain P.propositions (result P r l m).label)) → (result P r l m).wait ≤ P.horizon
        result_low (Propagation e) l m a f u = absurd (T_not (plain P.propositions (result P (Propagation e) l m).label) u f.2)
        result_low (LowerCase i) l m a f u = absurd (T_not (plain P.propositions (result P (LowerCase i) l m).label) u f.2)
        result_low (UpperCase i) l m a f u = absurd (T_not (plain P.propositions (result P (UpperCase i) l m).label) u f.1)
        result_low (LetterRemoval i) l m a f u = omega (arith, parent_low l a)
        result_low (OwnLiteral j) l m a f u = parent_low l a
        result_low (LiteralRemoval j) l m a f u = omega (arith, parent_low l a)

        pub low_next : Low B
        low_next l c u = go (next_cases P wf A B n l c)
          where
            go : Cell P A l ⊎ Given P (Cell P A) l → l.wait ≤ P.horizon
            go (inl d) = low l d u
            go (inr g) = subst (λ (x : Line). x.wait ≤ P.horizon) g.gave (result_low g.rule g.first g.second g.first_is (given_fires g) (subst (λ (x : Line). Is (not (plain P.propositions x.label))) (sym g.gave) u))

        -- a rule adds M at most to a wait that is no longer than the horizon
        pub high_next : (l : Line) → Cell P B l → l.wait ≤ P.horizon + P.largest
        high_next l c = go (next_cases P wf A B n l c)
          where
            go : Cell P A l ⊎ Given P (Cell P A) l → l.wait ≤ P.horizon + P.largest
            go (inl d) = omega (arith, all_low l d)
            go (inr g) = omega (arith, parent_low g.first g.first_is, result_more P wf g.rule g.row g.first g.second, ap (λ (x : Line). x.wait) g.gave)
