-- What a row gives from lines of which none is raised waits no longer than its cell: for each kind of row, what the loops over listed places may pass over.
use mathlib.Core.Path.{◌≡◌, subst}
use mathlib.Core.Bool.{cond}
use mathlib.Core.Logic.{◌⊎◌, inl, inr}
use mathlib.Core.List.{List}
use Prim.Native.Nat.{ℕ, ◌+◌, ◌*◌, ◌≤◌, ◌<◌}
use native.Mathlib.Nat.{le_trans, lt_of_le_of_lt}
use native.Mathlib.Decide.{dec_le}
use native.Mathlib.Omega.{arith}
use lib.Dec.{T as Is}
use lib.Ieee.Fits.{and_l, and_r}
use lib.Bits.{bit_or}
use lib.ListN.{get_or}
use Rattle.plan.specs.Plan.{Plan, width}
use Rattle.plan.proofs.Ranges.{WellFormed}
use Rattle.rules.specs.declared.Edge.{Edge}
use Rattle.rules.specs.declared.Rule.{Rule}
use Rattle.rules.specs.declared.Rule.TheVariants.{Propagation, LowerCase, UpperCase}
use Rattle.rules.specs.Rules.{constraint_of, uses_second}
use Rattle.rules.specs.Derivations.{InPlan}
use Rattle.rules.proofs.InRange.{edge_range}
use Rattle.rules_fill.specs.declared.shapes.Propagator.{Propagator}
use Rattle.rules_fill.specs.declared.shapes.Remover.{Remover}
use Rattle.rules_fill.specs.Parents.{first_point, second_point}
use Rattle.rules_fill.specs.Rows.{EdgeRow, LowerRow, UpperRow}
use Rattle.rules_fill.specs.Shapes.{label_mask, touches, cleared, propagated, removes}
use Rattle.rules_fill.proofs.PointLaws.{place, gives, given_line, is_line as is_line_there}
use Rattle.rules_fill.proofs.ShapeGives.{Gives, line_same, propagation_gives, lower_gives, upper_gives}
use Rattle.rules_fill.proofs.ShapeLaws.{or_in, label_in, link_in_lem, cleared_le, all_in_by, width_pos}
use Rattle.rules_listed.specs.Places.{Listed}
use Rattle.rules_listed.specs.Rests.{PropagateRest, RemoveRest, ClearRest}
use Rattle.rules_refill.specs.Lists.{Raised, Lined, Covered, Lists}
use Rattle.rules_refill.specs.Lent.{RowOf}

-- what a rule gives point x from places t and u comes from a raised line, or waits no longer than a cell
abbrev pub OrRaised : Plan → List ℕ → List ℕ → ℕ → Rule → ℕ → ℕ → Type 0 → Type 0
OrRaised P L counts x r t u Held = Raised (width P) L counts (first_point P r x) t ⊎ ((Is (uses_second r) × Raised (width P) L counts (second_point P r) u) ⊎ Held)

-- the same of points x and o, where the other place is listed among its point's lines
abbrev pub OrListed : ℕ → List ℕ → List ℕ → ℕ → ℕ → ℕ → ℕ → Type 0 → Type 0
OrListed w L counts x o t u Held = (Raised w L counts x t × Lined w L counts o u) ⊎ ((Raised w L counts o u × Lined w L counts x t) ⊎ Held)

module _ (P : Plan) (A L counts : List ℕ) (x : ℕ) (inside : x < P.points) where
  pub row_covered : Covered P A L counts → (r : Rule) → InPlan P r → {t u d a : ℕ} → t < width P → u < width P → Gives P A x r t u d a
      → OrRaised P L counts x r t u (a ≤ get_or A (x * width P + d) 0)
  row_covered covered r row {t} {u} {d} {a} ht hu g = go (dec_le 1 a)
    where
      Goal : Type 0
      Goal = OrRaised P L counts x r t u (a ≤ get_or A (x * width P + d) 0)

      same : (place P (given_line P A x r t u) ≡ d) × ((given_line P A x r t u).wait ≡ a) → OrRaised P L counts x r t u ((given_line P A x r t u).wait ≤ get_or A (x * width P + place P (given_line P A x r t u)) 0) → Goal
      same e (inl h) = inl h
      same e (inr (inl h)) = inr (inl h)
      same e (inr (inr h)) = inr (inr (subst (λ (w : ℕ). w ≤ get_or A (x * width P + d) 0) e.1 (subst (λ (c : ℕ). (given_line P A x r t u).wait ≤ get_or A (x * width P + c) 0) e.0 h)))

      go : Dec (1 ≤ a) → Goal
      go (yes h) = same (g.gives_line (g.above_gives h)) (covered.given x inside r row t u ht hu (g.above_gives h))
      go (no h) = inr (inr (omega arith))

  -- the same for a rule of one parent
  pub one_covered : Covered P A L counts → (r : Rule) → InPlan P r → (Is (uses_second r) → ⊥) → {t d a : ℕ} → t < width P → Gives P A x r t 0 d a
      → Raised (width P) L counts (first_point P r x) t ⊎ (a ≤ get_or A (x * width P + d) 0)
  one_covered covered r row one {t} {d} {a} ht g = go (row_covered covered r row ht (width_pos P) g)
    where
      go : OrRaised P L counts x r t 0 (a ≤ get_or A (x * width P + d) 0) → Raised (width P) L counts (first_point P r x) t ⊎ (a ≤ get_or A (x * width P + d) 0)
      go (inl h) = inl h
      go (inr (inl h)) = absurd (one h.0)
      go (inr (inr h)) = inr h

  -- and for one of two: the other parent is a line, so it is listed
  pub two_covered : Lists P A L counts → (r : Rule) → InPlan P r → first_point P r x < P.points → second_point P r < P.points → {t u d a : ℕ} → t < width P → u < width P → Gives P A x r t u d a
      → OrListed (width P) L counts (first_point P r x) (second_point P r) t u (a ≤ get_or A (x * width P + d) 0)
  two_covered lists r row first_in second_in {t} {u} {d} {a} ht hu g = go (dec_le 1 a)
    where
      Goal : Type 0
      Goal = OrListed (width P) L counts (first_point P r x) (second_point P r) t u (a ≤ get_or A (x * width P + d) 0)

      lined : (y v : ℕ) → y < P.points → v < width P → Is (is_line_there P A y v) → Lined (width P) L counts y v
      lined y v hy hv i = (lists.of_point y hy).all_lines v hv (rw (line_same v (get_or A (y * width P + v) 0)) i)

      both : Is (gives P A x r t u) → Lined (width P) L counts (first_point P r x) t × Lined (width P) L counts (second_point P r) u
      both h =
          let f : Is (is_line_there P A (first_point P r x) t) = search (and_l, and_r) in
          let s : Is (is_line_there P A (second_point P r) u) = search (and_l, and_r) in
          (lined (first_point P r x) t first_in ht f, lined (second_point P r) u second_in hu s)

      pick : Lined (width P) L counts (first_point P r x) t × Lined (width P) L counts (second_point P r) u → OrRaised P L counts x r t u (a ≤ get_or A (x * width P + d) 0) → Goal
      pick l (inl h) = inl (h, l.1)
      pick l (inr (inl h)) = inr (inl (h.1, l.0))
      pick l (inr (inr h)) = inr (inr h)

      go : Dec (1 ≤ a) → Goal
      go (yes h) = pick (both (g.above_gives h)) (row_covered lists.covered r row ht hu g)
      go (no h) = inr (inr (omega arith))

-- ---- the rows of a point
module _ (P : Plan) (A L counts : List ℕ) (x mask : ℕ) (mask_is : mask ≡ label_mask P.propositions) where
  -- rules 1 to 3: the same numbers, held in other words
  row_by : (by : Propagator) (f a d u v : ℕ) → by.from ≡ f → by.avoid ≡ a → by.add ≡ d → by.up ≡ u → by.down ≡ v → by.down < 65536 → f < P.points → d < width P
      → ((t : ℕ) → t < width P → Raised (width P) L counts f t ⊎ (propagated (label_mask P.propositions) a d u v t (get_or A (f * width P + t) 0) ≤ get_or A (x * width P + bit_or t d) 0))
      → RowOf P A L counts mask x by
  row_by by f a d u v e1 e2 e3 e4 e5 small f_in d_in given =
      record {
        from_in = rw e1 f_in;
        down_small = small;
        joins = λ t h. rw e3 (or_in P t d h d_in);
        rest = λ t h. rw (mask_is, e1, e2, e3, e4, e5) (given t h);
      }

  module _ (wf : WellFormed P) (few : P.propositions ≤ 4) (inside : x < P.points) (covered : Covered P A L counts) where
    pub edge_row_of : (e : Edge) → InPlan P (Propagation e) → (constraint_of P e).from ≡ x → (by : Propagator) → EdgeRow P e by → RowOf P A L counts mask x by
    edge_row_of e row mine by k =
        let i = edge_range P wf e row in
        row_by by _ _ _ _ _ k.from_is k.avoid_is k.add_is k.up_is k.down_is k.down_small i.to_in (label_in P _ i.label_in)
        (λ t h. one_covered P A L counts x inside covered (Propagation e) row (λ z. z) h (propagation_gives P A x few e mine i.label_in t))

    pub lower_row_of : (i : ℕ) → i < P.links → P.activation i ≡ x → (by : Propagator) → LowerRow P i by → RowOf P A L counts mask x by
    lower_row_of i row mine by k =
        row_by by _ _ _ _ _ k.from_is k.avoid_is k.add_is k.up_is k.down_is (omega (arith, k.down_is)) (wf.finish_in i row).1 (width_pos P)
        (λ t h. one_covered P A L counts x inside covered (LowerCase i) row (λ z. z) h (lower_gives P A x few i mine t))

    pub upper_row_of : (i : ℕ) → i < P.links → P.finish i ≡ x → (by : Propagator) → UpperRow P i by → RowOf P A L counts mask x by
    upper_row_of i row mine by k =
        row_by by _ _ _ _ _ k.from_is k.avoid_is k.add_is k.up_is k.down_is k.down_small (wf.activation_in i row) (link_in_lem P i row)
        (λ t h. one_covered P A L counts x inside covered (UpperCase i) row (λ z. z) h (upper_gives P A x few i mine t))

-- ---- what the loops are lent beside the rows, where a part has the point's cells or higher
module _ (P : Plan) (A L counts : List ℕ) (x w : ℕ) (width_is : w ≡ width P) (B : List ℕ) (no_lower : (c : ℕ) → c < w → get_or A (x * w + c) 0 ≤ get_or B c 0) where
  -- rules 1 to 3, from the n raised cells of the row's point
  pub propagate_rest : (n mask : ℕ) (by : Propagator) → n ≡ get_or counts (2 * by.from) 0 → RowOf P A L counts mask x by → PropagateRest w A L n mask by B
  propagate_rest n mask by e k = record { rest = λ t h. go t h (k.rest t (rw width_is at h)) }
    where
      go : (t : ℕ) → t < w → Raised (width P) L counts by.from t ⊎ (propagated mask by.avoid by.add by.up by.down t (get_or A (by.from * width P + t) 0) ≤ get_or A (x * width P + bit_or t by.add) 0)
          → Listed L (2 * by.from * w) n t ⊎ (propagated mask by.avoid by.add by.up by.down t (get_or A (by.from * w + t) 0) ≤ get_or B (bit_or t by.add) 0)
      go t h (inl r) = inl (rw (width_is, e) r)
      go t h (inr r) = inr (rw width_is (le_trans r (rw width_is at (no_lower (bit_or t by.add) (rw width_is (k.joins t (rw width_is at h)))))))

  -- rule 5, from the n raised cells of the observing point
  pub clear_rest : (n mask : ℕ) → n ≡ get_or counts (2 * x) 0 → ((t : ℕ) → t < width P → Raised (width P) L counts x t ⊎ (cond (touches mask t) (get_or A (x * width P + t) 0) 0 ≤ get_or A (x * width P + cleared t mask) 0)) → ClearRest w A L n mask x B
  clear_rest n mask e given = record { rest = λ t h. go t h (given t (rw width_is at h)) }
    where
      go : (t : ℕ) → t < w → Raised (width P) L counts x t ⊎ (cond (touches mask t) (get_or A (x * width P + t) 0) 0 ≤ get_or A (x * width P + cleared t mask) 0) → Listed L (2 * x * w) n t ⊎ (cond (touches mask t) (get_or A (x * w + t) 0) 0 ≤ get_or B (cleared t mask) 0)
      go t h (inl r) = inl (rw (width_is, e) r)
      go t h (inr r) = inr (rw width_is (le_trans r (rw width_is at (no_lower (cleared t mask) (lt_of_le_of_lt (cleared_le t mask) h)))))

  -- rules 4 and 6, with the lists of both points
  module _ (inside : x < P.points) (lists : Lists P A L counts) where
    pub remove_rest : (o m a : ℕ) (by : Remover) → by.other ≡ o → by.mask ≡ m → by.add ≡ a → o < P.points
        → ((t u : ℕ) → t < width P → u < width P → OrListed (width P) L counts x o t u (removes m a t (get_or A (x * width P + t) 0) u (get_or A (o * width P + u) 0) ≤ get_or A (x * width P + bit_or (cleared t m) u) 0))
        → RemoveRest w A L counts x by B
    remove_rest o m a by e1 e2 e3 other_in given =
        record {
          rest = λ t u h k. rw (e1, e2, e3) (go t u h k (given t u (rw width_is at h) (rw width_is at k)));
        }
      where
        go : (t u : ℕ) → t < w → u < w → OrListed (width P) L counts x o t u (removes m a t (get_or A (x * width P + t) 0) u (get_or A (o * width P + u) 0) ≤ get_or A (x * width P + bit_or (cleared t m) u) 0)
            → OrListed w L counts x o t u (removes m a t (get_or A (x * w + t) 0) u (get_or A (o * w + u) 0) ≤ get_or B (bit_or (cleared t m) u) 0)
        go t u h k (inl r) = inl (rw width_is r)
        go t u h k (inr (inl r)) = inr (inl (rw width_is r))
        go t u h k (inr (inr r)) = inr (inr (rw width_is (le_trans r (rw width_is at (no_lower (bit_or (cleared t m) u) (all_in_by P w width_is (cleared t m) u (lt_of_le_of_lt (cleared_le t m) h) k))))))
