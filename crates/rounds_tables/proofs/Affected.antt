-- A round affects only points that it is known to concern: those that depend on a changed point, those with lines that changed or that a changed point gives to,
-- and the first alarm where a raised cell is over the horizon.
use mathlib.Core.Path.{◌≡◌, refl, sym, ap, subst, ◌∙◌}
use mathlib.Core.Bool.{Bool, true, false, not}
use mathlib.Core.Logic.{◌⊎◌, inl, inr}
use mathlib.Core.List.{List}
use Prim.Native.Nat.{ℕ, ◌+◌, ◌*◌, ◌/◌, ◌%◌, ◌^◌, ◌≤◌, ◌<◌}
use native.Mathlib.Nat.{le_antisymm, le_trans, mul-le-mul_right, zero-div, zero-mod}
use native.Mathlib.Decide.{ℕ_discrete}
use native.Mathlib.Omega.{arith}
use lib.Dec.{T as Is, eqb, eqb→eq}
use lib.Ieee.Fits.{and_l, and_r}
use lib.ListN.{length, get_or}
use lib.Seq.{ext_get_or}
use Rattle.plan.specs.Label.{digit}
use Rattle.plan.specs.LinkSet.{contains}
use Rattle.plan.specs.Plan.{Plan, width, cells}
use Rattle.plan.proofs.Ranges.{WellFormed}
use Rattle.rules.specs.declared.Edge.TheVariants.{PlanEdge, HorizonEdge, UpperBound, LowerBound}
use Rattle.rules.specs.declared.Rule.{Rule}
use Rattle.rules.specs.declared.Rule.TheVariants.{Propagation, LowerCase, UpperCase, LetterRemoval, OwnLiteral, LiteralRemoval}
use Rattle.rules.specs.Rules.{fires, uses_second}
use Rattle.rules.specs.Tables.{next}
use Rattle.rules.specs.Derivations.{InPlan}
use Rattle.rules.proofs.Deriving.{Fires, fires_facts}
use Rattle.rules.proofs.Next.{FromTable, IsNext, next_is}
use Rattle.rules_fill.specs.Shapes.{is_line as is_line_at}
use Rattle.rules_fill.specs.Parts.{part}
use Rattle.rules_fill.specs.Parents.{first_point, second_point}
use Rattle.rules_fill.proofs.PartLaws.{part_at, part_length}
use Rattle.rules_fill.proofs.PointLaws.{place, wait_at, is_line, first_of, second_of, gives, given_line, Row, count_in, all}
use Rattle.rules_fill.proofs.ShapeGives.{line_same}
use Rattle.rules_listed.proofs.Counting.{count_two}
use Rattle.rules_refill.specs.Lists.{Raised}
use Rattle.rounds_points.specs.PointSets.{In, Dependents, Givers, Concerned}
use Rattle.rounds_tables.specs.Ready.{Unaffected}
use Rattle.rounds_tables.specs.Known.{Known}

-- the line at place 0 has no link and no digit
no_link : (i : ℕ) → Is (contains 0 i) → ⊥
unfolding contains
no_link i h = subst Is (ap (λ (c : ℕ). eqb (c % 2) 1) (zero-div (2 ^ i))) h

no_digit : (j : ℕ) → Is (not (eqb (digit 0 j) 0)) → ⊥
unfolding digit
no_digit j h = subst Is (ap (λ (c : ℕ). not (eqb (c % 4) 0)) (zero-div (4 ^ j))) h

module _ (P : Plan) (wf : WellFormed P) (A : List ℕ) (sized : length A ≡ cells P) (L counts sets : List ℕ) (changed lined givers set₀ set : ℕ) (over : Bool)
    (known : Known P A L counts changed lined over) (dependents : Dependents P sets) (giving : Givers P givers) (concerned : Concerned P.points sets changed lined givers set₀)
    (more : (x : ℕ) → In set₀ x → In set x) (first_in_set : over ≡ true → In set 0) where
  raised_changed : (y t : ℕ) → y < P.points → Raised (width P) L counts y t → In changed y
  raised_changed y t h r = known.changed_in.has y h (omega (arith, r.below))

  depends : (y x : ℕ) → y < P.points → In changed y → In (get_or sets y 0) x → In set x
  depends y x h c d = more x (concerned.dependent_in y x h c d)

  -- a point with a line beside the starting line
  has_lines : (x t : ℕ) → x < P.points → t < width P → 0 < t → Is (is_line P A x t) → In lined x
  has_lines x t h k p i =
      let line : (u : ℕ) → Is (is_line P A x u) → Is (is_line_at u (wait_at P A x u)) = λ u j. rw (line_same u (wait_at P A x u)) j in
      known.lined_in.has x h (rw (known.lists_are.of_point x h).line_count (count_two (λ u. is_line_at u (wait_at P A x u)) (width P) t k p (line 0 tt) (line t i)))

  module _ (x : ℕ) (inside : x < P.points) (out : In set x → ⊥) (t u : ℕ) (t_in : t < width P) (u_in : u < width P) where
    above : Dec (t ≡ 0) → (t ≡ 0 → ⊥) → 0 < t
    above (yes e) n = absurd (n e)
    above (no e) n = omega arith

    -- a line that has a link, or a digit
    linked : (i : ℕ) → Is (contains (t / 4 ^ P.propositions) i) → 0 < t
    linked i h = above (ℕ_discrete t 0) (λ e. no_link i (subst (λ (c : ℕ). Is (contains c i)) (ap (λ (s : ℕ). s / 4 ^ P.propositions) e ∙ zero-div (4 ^ P.propositions)) h))

    digited : (j : ℕ) → Is (not (eqb (digit (t % 4 ^ P.propositions) j) 0)) → 0 < t
    digited j h = above (ℕ_discrete t 0) (λ e. no_digit j (subst (λ (c : ℕ). Is (not (eqb (digit c j) 0))) (ap (λ (s : ℕ). s % 4 ^ P.propositions) e ∙ zero-mod (4 ^ P.propositions)) h))

    -- its point's own rules
    own : Is (is_line P A x t) → 0 < t → In changed x → ⊥
    own i p c = out (more x (concerned.lined_in x (has_lines x t inside t_in p i) c))

    by_giver : (y : ℕ) → Is (is_line P A x t) → 0 < t → In changed y → In givers y → ⊥
    by_giver y i p c g = out (more x (concerned.given_in x y (has_lines x t inside t_in p i) c g))

    -- the first parent is raised
    no_first : (r : Rule) → InPlan P r → Is (is_line P A (first_point P r x) t) → Fires P r (first_of P A x r t) (second_of P A r u) → (given_line P A x r t u).point ≡ x → Raised (width P) L counts (first_point P r x) t → ⊥
    no_first (Propagation (PlanEdge i)) h l f e r = out (depends (P.to i) x (wf.to_in i h) (raised_changed _ _ (wf.to_in i h) r) (rw (sym e) (dependents.by_edge i h)))
    no_first (Propagation (HorizonEdge y)) h l f e r = by_over over refl
      where
        by_over : (b : Bool) → over ≡ b → ⊥
        by_over true q = out (subst (In set) e (first_in_set q))
        by_over false q = absurd (omega (arith, f.3, known.none_over.none q y t h.1 t_in r))
    no_first (Propagation (UpperBound i)) h l f e r = out (depends (P.finish i) x (wf.finish_in i h).1 (raised_changed _ _ (wf.finish_in i h).1 r) (rw (sym e) (dependents.by_finish i h)))
    no_first (Propagation (LowerBound i)) h l f e r = out (depends (P.activation i) x (wf.activation_in i h) (raised_changed _ _ (wf.activation_in i h) r) (rw (sym e) (dependents.by_activation i h)))
    no_first (LowerCase i) h l f e r = out (depends (P.finish i) x (wf.finish_in i h).1 (raised_changed _ _ (wf.finish_in i h).1 r) (rw (sym e) (dependents.by_finish i h)))
    no_first (UpperCase i) h l f e r = out (depends (P.activation i) x (wf.activation_in i h) (raised_changed _ _ (wf.activation_in i h) r) (rw (sym e) (dependents.by_activation i h)))
    no_first (LetterRemoval i) h l f e r = own l (linked i f.0) (raised_changed _ _ inside r)
    no_first (OwnLiteral j) h l f e r = own l (digited j f.1) (raised_changed _ _ inside r)
    no_first (LiteralRemoval j) h l f e r = own l (digited j f.0) (raised_changed _ _ inside r)

    -- the second is
    no_second : (r : Rule) → InPlan P r → Is (is_line P A (first_point P r x) t) → Fires P r (first_of P A x r t) (second_of P A r u) → Is (uses_second r) → Raised (width P) L counts (second_point P r) u → ⊥
    no_second (LetterRemoval i) h l f s r = by_giver (P.activation i) l (linked i f.0) (raised_changed _ _ (wf.activation_in i h) r) (giving.activation_in i h)
    no_second (LiteralRemoval j) h l f s r = by_giver (P.observer j) l (digited j f.0) (raised_changed _ _ (wf.observer_in j h).1 r) (giving.observer_in j h)
    no_second (Propagation e) h l f s r = s
    no_second (LowerCase i) h l f s r = s
    no_second (UpperCase i) h l f s r = s
    no_second (OwnLiteral j) h l f s r = s

    pub low : (r : Rule) → InPlan P r → Is (gives P A x r t u) → (given_line P A x r t u).wait ≤ get_or A (x * width P + place P (given_line P A x r t u)) 0
    low r h g = go (known.lists_are.covered.given x inside r h t u t_in u_in g)
      where
        line : Is (is_line P A (first_point P r x) t)
        line = search (and_l, and_r)

        facts : Fires P r (first_of P A x r t) (second_of P A r u)
        facts = let f : Is (fires P r (first_of P A x r t) (second_of P A r u)) = search (and_l, and_r) in fires_facts P r _ _ f

        mine : (given_line P A x r t u).point ≡ x
        mine = let e : Is (eqb (given_line P A x r t u).point x) = search (and_l, and_r) in eqb→eq _ _ e

        go : Raised (width P) L counts (first_point P r x) t ⊎ ((Is (uses_second r) × Raised (width P) L counts (second_point P r) u) ⊎ ((given_line P A x r t u).wait ≤ get_or A (x * width P + place P (given_line P A x r t u)) 0)) → (given_line P A x r t u).wait ≤ get_or A (x * width P + place P (given_line P A x r t u)) 0
        go (inl a) = absurd (no_first r h line facts mine a)
        go (inr (inl b)) = absurd (no_second r h line facts b.0 b.1)
        go (inr (inr c)) = c

  keeps : (x : ℕ) → x < P.points → (In set x → ⊥) → part P x (next P A) ≡ part P x A
  keeps x inside out = ext_get_or 0 (part P x (next P A)) (part P x A) (part_length P x inside (next P A) (n.as_long ∙ sized) ∙ sym (part_length P x inside A sized)) (λ t h. at t (rw (part_length P x inside (next P A) (n.as_long ∙ sized)) at h))
    where
      n : IsNext P A (next P A)
      n = next_is P wf A sized

      cell_in : (t : ℕ) → t < width P → x * width P + t < cells P
      cell_in t h = omega (arith, mul-le-mul_right (width P) inside)

      row_low : (t w : ℕ) → Row P A x t w → w ≤ get_or A (x * width P + t) 0
      row_low t w q =
          let p = q.pair in
          rw (p.wait_is, p.place_is) (low x inside out p.first_place p.second_place p.first_lt (le_trans p.second_lt (count_in P wf A sized x inside q.rule)) q.rule q.row p.does_give)

      up : (t : ℕ) → t < width P → (get_or (next P A) (x * width P + t) 0 ≡ get_or A (x * width P + t) 0) ⊎ FromTable P A (x * width P + t) (get_or (next P A) (x * width P + t) 0) → get_or (next P A) (x * width P + t) 0 ≤ get_or A (x * width P + t) 0
      up t h (inl e) = omega arith
      up t h (inr f) = let v = all P wf A sized x inside t _ h f in le_trans v.1 (row_low t v.0 v.2)

      at : (t : ℕ) → t < width P → get_or (part P x (next P A)) t 0 ≡ get_or (part P x A) t 0
      at t h = part_at P x (next P A) t h ∙ le_antisymm (up t h (n.reason (x * width P + t) (cell_in t h))) (n.no_lower (x * width P + t) (cell_in t h)) ∙ sym (part_at P x A t h)

  pub unaffected : Unaffected P A set
  unaffected = record { keeps = keeps }
