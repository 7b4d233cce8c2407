-- What is listed covers the rest: after a round the places that it changed, and before the first all lines.
use mathlib.Core.Path.{◌≡◌, refl, sym, ap, subst, ◌∙◌}
use mathlib.Core.Logic.{◌⊎◌, inl, inr}
use mathlib.Core.List.{List}
use Prim.Native.Nat.{ℕ, ◌+◌, ◌*◌, ◌/◌, ◌%◌, ◌^◌, ◌≤◌, ◌<◌}
use native.Mathlib.Decide.{ℕ_discrete}
use native.Mathlib.Omega.{arith}
use lib.Dec.{T as Is, eqb, eqb→eq}
use lib.Ieee.Fits.{and_l, and_r}
use lib.ListN.{length, get_or}
use Rattle.plan.specs.Plan.{Plan, width, cells}
use Rattle.plan.proofs.Ranges.{WellFormed}
use Rattle.rules.specs.declared.Line.{Line}
use Rattle.rules.specs.declared.Rule.{Rule}
use Rattle.rules.specs.declared.Rule.TheVariants.{Propagation, LowerCase, UpperCase, LetterRemoval, OwnLiteral, LiteralRemoval}
use Rattle.rules.specs.Lines.{starting_line}
use Rattle.rules.specs.Rules.{fires, result, uses_second}
use Rattle.rules.specs.Tables.{next}
use Rattle.rules.specs.Derivations.{InPlan, Parent}
use Rattle.rules.proofs.Next.{Cell, IsNext, first_starts, next_is}
use Rattle.rules_fill.specs.Parents.{first_point, second_point}
use Rattle.rules_fill.proofs.PointLaws.{place, wait_at, line_of, is_line, first_of, second_of, gives, given_line, cell_place, first_in, second_in, line_parent}
use Rattle.rules_fill.proofs.ShapeGives.{line_same}
use Rattle.rules_refill.specs.Lists.{Raised, Covered}
use Rattle.rounds_tables.specs.Known.{AllListed}

module _ (P : Plan) (wf : WellFormed P) (A : List ℕ) (sized : length A ≡ cells P) where
  -- ---- after the round from A
  module _ (L counts : List ℕ) (all_raised : (y t : ℕ) → y < P.points → t < width P → (get_or (next P A) (y * width P + t) 0 ≡ get_or A (y * width P + t) 0 → ⊥) → Raised (width P) L counts y t) where
    abbrev B : List ℕ
    B = next P A

    n : IsNext P A B
    n = next_is P wf A sized

    -- a line at a place that kept its wait is a line of A
    parent : (y t : ℕ) → y < P.points → t < width P → wait_at P B y t ≡ wait_at P A y t → Is (is_line P B y t) → Parent P (Cell P A) (line_of P B y t)
    parent y t h k e i =
        let same : line_of P A y t ≡ line_of P B y t = λ j. record { point = y; set = t / 4 ^ P.propositions; label = t % 4 ^ P.propositions; wait = sym e j } in
        subst (Parent P (Cell P A)) same (line_parent P wf A sized y t h k (rw e at i))

    -- what the rules give from lines of A is in B
    low : (r : Rule) → InPlan P r → (l m : Line) → Parent P (Cell P A) l → Parent P (Cell P A) m → Is (fires P r l m) → (x : ℕ) → (result P r l m).point ≡ x → (result P r l m).wait ≤ get_or B (x * width P + place P (result P r l m)) 0
    low r h l m p q f x e =
        let k = result P r l m in
        subst (λ (c : ℕ). k.wait ≤ get_or B c 0) (cell_place P wf A sized k ∙ ap (λ (y : ℕ). y * width P + place P k) e)
        (n.covers k (record { rule = r; row = h; first = l; second = m; first_is = p; second_is = q; fire = f; gave = refl }))

    start : Parent P (Cell P A) (starting_line 0)
    start = inl (first_starts P (omega (arith, wf.two)))

    abbrev Out : ℕ → Rule → ℕ → ℕ → Type 0
    Out x r t u = Raised (width P) L counts (first_point P r x) t ⊎ ((Is (uses_second r) × Raised (width P) L counts (second_point P r) u) ⊎ ((given_line P B x r t u).wait ≤ get_or B (x * width P + place P (given_line P B x r t u)) 0))

    module _ (x : ℕ) (inside : x < P.points) (t u : ℕ) (t_in : t < width P) (u_in : u < width P) where
      -- the second parent of a rule that looks at it
      two : (r : Rule) → InPlan P r → Is (uses_second r) → Parent P (Cell P A) (first_of P B x r t) → Is (is_line P B (second_point P r) u) → Is (fires P r (first_of P B x r t) (second_of P B r u)) → (given_line P B x r t u).point ≡ x → Dec (wait_at P B (second_point P r) u ≡ wait_at P A (second_point P r) u) → Out x r t u
      two r h s p i f e (yes q) = inr (inr (low r h _ _ p (parent (second_point P r) u (second_in P wf A sized x inside r h) u_in q i) f x e))
      two r h s p i f e (no q) = inr (inl (s, all_raised (second_point P r) u (second_in P wf A sized x inside r h) u_in q))

      one : (r : Rule) → InPlan P r → Parent P (Cell P A) (first_of P B x r t) → Is (is_line P B (second_point P r) u) → Is (fires P r (first_of P B x r t) (second_of P B r u)) → (given_line P B x r t u).point ≡ x → Out x r t u
      one (Propagation e) h p i f q = inr (inr (low (Propagation e) h (first_of P B x (Propagation e) t) (starting_line 0) p start f x q))
      one (LowerCase j) h p i f q = inr (inr (low (LowerCase j) h (first_of P B x (LowerCase j) t) (starting_line 0) p start f x q))
      one (UpperCase j) h p i f q = inr (inr (low (UpperCase j) h (first_of P B x (UpperCase j) t) (starting_line 0) p start f x q))
      one (LetterRemoval j) h p i f q = two (LetterRemoval j) h tt p i f q (ℕ_discrete _ _)
      one (OwnLiteral j) h p i f q = inr (inr (low (OwnLiteral j) h (first_of P B x (OwnLiteral j) t) (starting_line 0) p start f x q))
      one (LiteralRemoval j) h p i f q = two (LiteralRemoval j) h tt p i f q (ℕ_discrete _ _)

      given : (r : Rule) → InPlan P r → Is (gives P B x r t u) → Dec (wait_at P B (first_point P r x) t ≡ wait_at P A (first_point P r x) t) → Out x r t u
      given r h g (no q) = inl (all_raised (first_point P r x) t (first_in P wf A sized x inside r h) t_in q)
      given r h g (yes q) =
          let a : Is (is_line P B (first_point P r x) t) = search (and_l, and_r) in
          let b : Is (is_line P B (second_point P r) u) = search (and_l, and_r) in
          let f : Is (fires P r (first_of P B x r t) (second_of P B r u)) = search (and_l, and_r) in
          let e : Is (eqb (given_line P B x r t u).point x) = search (and_l, and_r) in
          one r h (parent (first_point P r x) t (first_in P wf A sized x inside r h) t_in q a) b f (eqb→eq _ _ e)

    pub covered_next : Covered P (next P A) L counts
    covered_next = record { given = λ x inside r h t u t_in u_in g. given x inside t u t_in u_in r h g (ℕ_discrete _ _) }

-- ---- before the first round
pub covered_first : (P : Plan) → WellFormed P → (A L counts : List ℕ) → length A ≡ cells P → AllListed P.points (width P) A L counts → Covered P A L counts
covered_first P wf A L counts sized lines =
    record { given = λ x inside r h t u t_in u_in g. inl (lines.lines_raised (first_point P r x) t (first_in P wf A sized x inside r h) t_in (rw (line_same t (wait_at P A (first_point P r x) t)) (line x r t u g))) }
  where
    line : (x : ℕ) (r : Rule) (t u : ℕ) → Is (gives P A x r t u) → Is (is_line P A (first_point P r x) t)
    line x r t u g = search (and_l, and_r)
