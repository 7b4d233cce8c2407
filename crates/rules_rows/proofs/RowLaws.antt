-- Laws of the rows read: where the next edge of a point is, and what one edge more makes of what is read.
use mathlib.Core.Path.{◌≡◌, refl, sym, ap, subst, ◌∙◌}
use mathlib.Core.Bool.{Bool, true, false, cond}
use mathlib.Core.List.{List}
use Rattle.std.proofs.Common.{Option, Some, None}
use Rattle.std.proofs.lemmas.Option.{cond_some, none-some}
use Rattle.std.proofs.lemmas.Bool.{lt-ltb, le-ltb, ltb-true, ltb-false}
use lib.ListN.{length, get_or, set}
use lib.Seq.{get_or-set_same, get_or-set_other}
use Prim.Native.Nat.{ℕ, zero, suc, ◌+◌, ◌-◌, ◌≤◌, ◌<◌}
use native.Mathlib.Nat.{sub_self}
use native.Mathlib.Numerals.{add-one}
use native.Mathlib.Decide.{ℕ_discrete}
use native.Mathlib.Omega.{arith}
use lib.Dec.{eqb, ltb}
use borrow.Author.Tests.{eqb-true, eqb-false, eq-eqb, ne_eqb}
use Rattle.plan.specs.Plan.{Plan}
use Rattle.plan.specs.Layout.{plan_of}
use Rattle.plan.specs.Refusal.{Accepted}
use Rattle.plan.proofs.Ranges.{Bounded, accepted_bounded, accepted_well_formed}
use Rattle.rules_rows.specs.declared.numbers.EdgeNumbers.{EdgeNumbers}
use Rattle.rules_rows.specs.RowsRead.{edge_among, next_edge, edge_or_none, EdgesFrom, edge_with, edge_of, no_edge}

-- ---- the next edge of a point
-- m is the first number from i on and below n whose edge starts at x, or n
pub record Found (P : Plan) (x i n m : ℕ) : Type 0 where
  pub on : i ≤ m
  pub within : m ≤ n
  pub passed : (j : ℕ) → i ≤ j → j < m → P.from j ≡ x → ⊥
  pub starts : m < n → P.from m ≡ x

module _ (P : Plan) (x : ℕ) where
  among_found : (k i : ℕ) → Found P x i (i + k) (edge_among P x i k)
  unfolding edge_among
  among_found zero i = record { on = omega arith; within = omega arith; passed = λ j h g e. omega arith; starts = λ h. absurd (omega arith) }
  among_found (suc k) i = go (eqb (P.from i) x) refl (among_found k (suc i))
    where
      go : (b : Bool) → eqb (P.from i) x ≡ b → Found P x (suc i) (suc i + k) (edge_among P x (suc i) k) → Found P x i (i + suc k) (cond b i (edge_among P x (suc i) k))
      go true e r = record { on = omega arith; within = omega arith; passed = λ j h g f. omega arith; starts = λ h. eqb-true (P.from i) x e }
      go false e r = record { on = omega (arith, r.on); within = omega (arith, r.within); passed = passed_on; starts = λ h. r.starts (omega arith) }
        where
          step : (j : ℕ) → i ≤ j → j < edge_among P x (suc i) k → P.from j ≡ x → Dec (j ≡ i) → ⊥
          step j h g f (yes q) = eqb-false (P.from i) x e (ap P.from (sym q) ∙ f)
          step j h g f (no q) = r.passed j (omega arith) g f

          passed_on : (j : ℕ) → i ≤ j → j < edge_among P x (suc i) k → P.from j ≡ x → ⊥
          passed_on j h g f = step j h g f (ℕ_discrete j i)

  pub next_edge_found : (i : ℕ) → i ≤ P.edges → Found P x i P.edges (next_edge P x i)
  unfolding next_edge
  next_edge_found i h = let e : i + (P.edges - i) ≡ P.edges = omega arith in subst (λ (n : ℕ). Found P x i n (edge_among P x i (P.edges - i))) e (among_found (P.edges - i) i)

  next_edge_none : next_edge P x P.edges ≡ P.edges
  unfolding next_edge edge_among
  next_edge_none = rw sub_self

  next_edge_here : (i : ℕ) → i < P.edges → P.from i ≡ x → next_edge P x i ≡ i
  unfolding next_edge edge_among
  next_edge_here i h e =
      let s : P.edges - i ≡ suc (P.edges - suc i) = omega arith in
      rw (s, eq-eqb (P.from i) x e)

  next_edge_past : (i : ℕ) → i < P.edges → (P.from i ≡ x → ⊥) → next_edge P x i ≡ next_edge P x (i + 1)
  unfolding next_edge edge_among
  next_edge_past i h e =
      let s : P.edges - i ≡ suc (P.edges - suc i) = omega arith in
      rw (add-one, s, ne_eqb (P.from i) x e)

  -- the next edge, or none
  pub here_or_none : (i : ℕ) → i < P.edges → P.from i ≡ x → edge_or_none P (next_edge P x i) ≡ Some i
  here_or_none i h e = rw (next_edge_here i h e, lt-ltb i P.edges h) refl

  pub none_left : edge_or_none P (next_edge P x P.edges) ≡ None
  none_left = rw (next_edge_none, le-ltb P.edges P.edges (omega arith)) refl

-- ---- an edge, or none
pub some_edge : (P : Plan) (m i : ℕ) → edge_or_none P m ≡ Some i → (m ≡ i) × (i < P.edges)
some_edge P m i e = let r = cond_some (ltb m P.edges) m i e in (r.1, rw r.1 at (ltb-true m P.edges r.0))

pub past_edges : (P : Plan) (m : ℕ) → edge_or_none P m ≡ None → P.edges ≤ m
past_edges P m e = go (ltb m P.edges) refl e
  where
    go : (b : Bool) → ltb m P.edges ≡ b → cond b (Some m) None ≡ None → P.edges ≤ m
    go true t q = absurd (none-some m (sym q))
    go false t q = ltb-false m P.edges t

-- ---- one edge more
module _ (P : Plan) (few : Bounded P) (i : ℕ) (real : i < P.edges) (start : P.from i < P.points) (F : List (Option ℕ)) (E : List EdgeNumbers) (long_first : length F ≡ 32) (long_edges : length E ≡ 128) (rest : EdgesFrom P (i + 1) F E) where
  first_on : (x : ℕ) → x < P.points → get_or (set F (P.from i) (Some i)) x None ≡ edge_or_none P (next_edge P x i)
  first_on x h = go (ℕ_discrete x (P.from i))
    where
      go : Dec (x ≡ P.from i) → get_or (set F (P.from i) (Some i)) x None ≡ edge_or_none P (next_edge P x i)
      go (yes e) = rw e (get_or-set_same F (P.from i) (Some i) None (omega (arith, few.points_in)) ∙ sym (here_or_none P (P.from i) i real refl))
      go (no e) = get_or-set_other F (P.from i) x (Some i) None e ∙ rest.first_is x h ∙ ap (edge_or_none P) (sym (next_edge_past P x i real (λ q. e (sym q))))

  edge_on : (j : ℕ) → i ≤ j → j < P.edges → get_or (set E i (edge_with P i (get_or F (P.from i) None))) j no_edge ≡ edge_of P j
  edge_on j l m = go (ℕ_discrete j i)
    where
      go : Dec (j ≡ i) → get_or (set E i (edge_with P i (get_or F (P.from i) None))) j no_edge ≡ edge_of P j
      go (yes e) = rw e (get_or-set_same E i (edge_with P i (get_or F (P.from i) None)) no_edge (omega (arith, few.edges_in)) ∙ ap (edge_with P i) (rest.first_is (P.from i) start))
      go (no e) = get_or-set_other E i j (edge_with P i (get_or F (P.from i) None)) no_edge e ∙ rest.edge_is j (omega arith) m

  one_more : EdgesFrom P i (set F (P.from i) (Some i)) (set E i (edge_with P i (get_or F (P.from i) None)))
  one_more = record { first_is = first_on; edge_is = edge_on }

-- a turn of the loop that reads the edges from the last on
pub one_edge_read : (bs : List ℕ) → Accepted bs → (i : ℕ) → 0 < i → i ≤ (plan_of bs).edges → (F : List (Option ℕ)) (E : List EdgeNumbers) → length F ≡ 32 → length E ≡ 128 → EdgesFrom (plan_of bs) i F E → (x : ℕ) → x ≡ (plan_of bs).from (i - 1) → (e : EdgeNumbers) → e ≡ edge_with (plan_of bs) (i - 1) (get_or F x None) → EdgesFrom (plan_of bs) (i - 1) (set F x (Some (i - 1))) (set E (i - 1) e)
one_edge_read bs ok i h g F E long_first long_edges r x at_x e is =
    let q : i ≡ i - 1 + 1 = omega arith in
    let real : i - 1 < (plan_of bs).edges = omega arith in
    rw (is, at_x) (one_more (plan_of bs) (accepted_bounded bs ok) (i - 1) real ((accepted_well_formed bs ok).from_in (i - 1) real) F E long_first long_edges (subst (λ (n : ℕ). EdgesFrom (plan_of bs) n F E) q r))

-- before any edge is read there is no first edge
pub none_read : (P : Plan) (few : Bounded P) (F : List (Option ℕ)) (E : List EdgeNumbers) → ((x : ℕ) → x < 32 → get_or F x None ≡ None) → EdgesFrom P P.edges F E
none_read P few F E none = record { first_is = λ x h. none x (omega (arith, few.points_in)) ∙ sym (none_left P x); edge_is = λ i h g. absurd (omega arith) }
