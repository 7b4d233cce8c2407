-- What a round does to the cells of one point, as loops over the rows and the places of both parents, makes those cells of the next table.
use mathlib.Core.Path.{◌≡◌, refl, sym, ap, subst, ◌∙◌}
use mathlib.Core.Bool.{Bool, true, false, ◌&&◌, ◌||◌}
use mathlib.Core.Logic.{◌⊎◌, inl, inr}
use mathlib.Core.List.{List}
use Prim.Native.Nat.{ℕ, zero, suc, ◌+◌, ◌-◌, ◌*◌, ◌/◌, ◌%◌, ◌^◌, ◌≤◌, ◌<◌}
use native.Mathlib.Nat.{le_refl, le_trans, div-lt_iff_lt-mul, mod-lt, div-add-mod', zero-div, zero-mod, one-le-mul}
use native.Mathlib.Decide.{dec_le}
use native.Mathlib.Omega.{arith}
use lib.Dec.{T as Is, ltb, eqb, ltb→lt, lt→ltb, eqb→eq}
use lib.Ieee.Fits.{and_l, and_r, and_i, eq→eqb}
use lib.ListN.{length, get_or}
use lib.Pow.{pow_pos}
use borrow.Author.Tests.{ne_eqb}
use Rattle.plan.specs.Plan.{Plan, width, cells}
use Rattle.plan.proofs.LabelLaws.{four_pos}
use Rattle.plan.proofs.Ranges.{WellFormed}
use Rattle.plan.proofs.Truth.{or_of, or_right}
use Rattle.rules.specs.declared.Line.{Line}
use Rattle.rules.specs.declared.Edge.TheVariants.{PlanEdge, HorizonEdge, UpperBound, LowerBound}
use Rattle.rules.specs.declared.Rule.{Rule}
use Rattle.rules.specs.declared.Rule.TheVariants.{Propagation, LowerCase, UpperCase, LetterRemoval, OwnLiteral, LiteralRemoval}
use Rattle.rules.specs.Lines.{cell_of}
use Rattle.rules.specs.Rules.{fires, result}
use Rattle.rules_fill.specs.Parents.{first_point, second_point}
use Rattle.rules.specs.Tables.{raise_cell, next}
use Rattle.rules_fill.specs.Parts.{part}
use Rattle.rules_fill.specs.Steps.{steps, when}
use Rattle.rules.specs.Derivations.{Starting, InPlan, Parent, Given}
use Rattle.rules.proofs.Deriving.{Fires, facts_fire, given_fires, no_set, no_label, no_wait, starts}
use Rattle.rules.proofs.InRange.{InRange, edge_range, range}
use Rattle.rules.proofs.Monotone.{waiting, fires_mono, result_mono, result_cell}
use Rattle.rules.proofs.Cells.{digit_lt, digit_div, digit_mod}
use Rattle.rules.proofs.Next.{Cell, FromTable}
use Rattle.rules.proofs.Raising.{Raises, raises_cell, raises_then, raises_iff}
use Rattle.rules_fill.proofs.StepLaws.{raises_when, raises_steps, Some, steps_idle, when_false}
use Rattle.rules_fill.proofs.PartLaws.{next_part_lem}

-- a line's place among its point's cells
abbrev pub place : Plan → Line → ℕ
place P l = l.set * 4 ^ P.propositions + l.label

-- what the table has at place t of point y
abbrev pub wait_at : Plan → List ℕ → ℕ → ℕ → ℕ
wait_at P A y t = get_or A (y * width P + t) 0

-- the line there, and whether there is one: at place 0 there is a starting line at least
abbrev pub line_of : Plan → List ℕ → ℕ → ℕ → Line
line_of P A y t = record { point = y; set = t / 4 ^ P.propositions; label = t % 4 ^ P.propositions; wait = wait_at P A y t }

abbrev pub is_line : Plan → List ℕ → ℕ → ℕ → Bool
is_line P A y t = eqb t 0 || ltb 0 (wait_at P A y t)

-- how many places there are to try for the second parent: one for a rule of one parent
abbrev pub second_count : Plan → Rule → ℕ
second_count P (Propagation e) = 1
second_count P (LowerCase i) = 1
second_count P (UpperCase i) = 1
second_count P (LetterRemoval i) = width P
second_count P (OwnLiteral j) = 1
second_count P (LiteralRemoval j) = width P

-- the parents at places t and u
abbrev pub first_of : Plan → List ℕ → ℕ → Rule → ℕ → Line
first_of P A x r t = line_of P A (first_point P r x) t

abbrev pub second_of : Plan → List ℕ → Rule → ℕ → Line
second_of P A r u = line_of P A (second_point P r) u

-- the rule gives a line of point x from them
abbrev pub gives : Plan → List ℕ → ℕ → Rule → ℕ → ℕ → Bool
gives P A x r t u = is_line P A (first_point P r x) t && is_line P A (second_point P r) u && fires P r (first_of P A x r t) (second_of P A r u) && eqb (result P r (first_of P A x r t) (second_of P A r u)).point x

abbrev pub given_line : Plan → List ℕ → ℕ → Rule → ℕ → ℕ → Line
given_line P A x r t u = result P r (first_of P A x r t) (second_of P A r u)

-- what they do to the part
unfoldable pub step_of_pair : Plan → List ℕ → ℕ → Rule → ℕ → ℕ → List ℕ → List ℕ
step_of_pair P A x r t u = when (gives P A x r t u) (raise_cell (place P (given_line P A x r t u)) (given_line P A x r t u).wait)

-- one row of a rule
unfoldable pub row_step : Plan → List ℕ → ℕ → Rule → List ℕ → List ℕ
row_step P A x r = steps (λ t. steps (λ u. step_of_pair P A x r t u) (second_count P r)) (width P)

-- all the rows
unfoldable pub fill_point : Plan → List ℕ → ℕ → List ℕ → List ℕ
fill_point P A x B =
    steps (λ j C. row_step P A x (LiteralRemoval j) (row_step P A x (OwnLiteral j) C)) P.propositions
    (steps (λ i C. row_step P A x (LetterRemoval i) (row_step P A x (Propagation (LowerBound i)) (row_step P A x (UpperCase i) (row_step P A x (Propagation (UpperBound i)) (row_step P A x (LowerCase i) C))))) P.links
    (steps (λ y. row_step P A x (Propagation (HorizonEdge (suc y)))) (P.points - 1)
    (steps (λ i. row_step P A x (Propagation (PlanEdge i))) P.edges B)))

-- ---- which waits they raise which places to
pub record Pair (P : Plan) (A : List ℕ) (x : ℕ) (r : Rule) (c w : ℕ) : Type 0 where
  pub first_place : ℕ
  pub second_place : ℕ
  pub first_lt : first_place < width P
  pub second_lt : second_place < second_count P r
  pub does_give : Is (gives P A x r first_place second_place)
  pub place_is : c ≡ place P (given_line P A x r first_place second_place)
  pub wait_is : w ≡ (given_line P A x r first_place second_place).wait

pub record Row (P : Plan) (A : List ℕ) (x c w : ℕ) : Type 0 where
  pub rule : Rule
  pub row : InPlan P rule
  pub pair : Pair P A x rule c w

module _ (P : Plan) (wf : WellFormed P) (A : List ℕ) (len : length A ≡ cells P) where
  -- places and cells
  pub cell_place : (l : Line) → cell_of P l ≡ l.point * width P + place P l
  cell_place l = omega arith

  pub place_lt : (l : Line) → InRange P l → place P l < width P
  place_lt l h = digit_lt _ _ _ _ h.set_in h.label_in

  pub line_range : (y t : ℕ) → y < P.points → t < width P → InRange P (line_of P A y t)
  line_range y t h k = record { point_in = h; set_in = (div-lt_iff_lt-mul (four_pos _)).1 k; label_in = mod-lt _ (four_pos _) }

  pub line_place : (y t : ℕ) → place P (line_of P A y t) ≡ t
  line_place y t = div-add-mod' t (4 ^ P.propositions)

  -- a line of these loops is a line of the table
  pub line_parent : (y t : ℕ) → y < P.points → t < width P → Is (is_line P A y t) → Parent P (Cell P A) (line_of P A y t)
  line_parent y t h k i = go (dec_le 1 (wait_at P A y t))
    where
      go : Dec (1 ≤ wait_at P A y t) → Parent P (Cell P A) (line_of P A y t)
      go (yes w) = inr (record { inside = line_range y t h k; above = w; holds = ap (λ (c : ℕ). get_or A c 0) (cell_place (line_of P A y t) ∙ ap (λ (s : ℕ). y * width P + s) (line_place y t)) })
      go (no w) = inl (first (or_of (eqb t 0) (ltb 0 (wait_at P A y t)) i))
        where
          first : Is (eqb t 0) ⊎ Is (ltb 0 (wait_at P A y t)) → Starting P (line_of P A y t)
          first (inl z) = let e : t ≡ 0 = eqb→eq t 0 z in starts h (rw e (zero-div _)) (rw e (zero-mod _)) (omega arith)
          first (inr z) = absurd (omega (arith, ltb→lt 0 (wait_at P A y t) z))

  -- a line of the table is one of these loops', or waits no longer than one of the same cell
  pub record Found (l : Line) : Type 0 where
    pub place_of : ℕ
    pub place_in : place_of < width P
    pub is_line : Is (is_line P A l.point place_of)
    pub to : ℕ
    pub no_less : l.wait ≤ to
    pub line_is : line_of P A l.point place_of ≡ waiting l to

  found : (l : Line) → Parent P (Cell P A) l → Found l
  found l (inl s) = record { place_of = 0; place_in = one-le-mul (pow_pos _) (four_pos _); is_line = tt; to = wait_at P A l.point 0; no_less = omega (arith, no_wait s); line_is = λ i. record { point = l.point; set = (zero-div (4 ^ P.propositions) ∙ sym (no_set s)) i; label = (zero-mod (4 ^ P.propositions) ∙ sym (no_label s)) i; wait = wait_at P A l.point 0 } }
  found l (inr c) = record { place_of = place P l; place_in = place_lt l c.inside; is_line = or_right (eqb (place P l) 0) (ltb 0 (wait_at P A l.point (place P l))) (lt→ltb 0 (wait_at P A l.point (place P l)) (rw held c.above)); to = l.wait; no_less = le_refl _; line_is = λ i. record { point = l.point; set = digit_div l.set (4 ^ P.propositions) l.label c.inside.label_in i; label = digit_mod l.set (4 ^ P.propositions) l.label c.inside.label_in i; wait = held i } }
    where
      held : wait_at P A l.point (place P l) ≡ l.wait
      held = ap (λ (x : ℕ). get_or A x 0) (sym (cell_place l)) ∙ c.holds

  -- ---- the steps raise what the rules give, and nothing else
  module _ (x : ℕ) (inside : x < P.points) where
    pub first_in : (r : Rule) → InPlan P r → first_point P r x < P.points
    first_in (Propagation e) h = (edge_range P wf e h).to_in
    first_in (LowerCase i) h = (wf.finish_in i h).1
    first_in (UpperCase i) h = wf.activation_in i h
    first_in (LetterRemoval i) h = inside
    first_in (OwnLiteral j) h = inside
    first_in (LiteralRemoval j) h = inside

    pub second_in : (r : Rule) → InPlan P r → second_point P r < P.points
    second_in (Propagation e) h = omega (arith, wf.two)
    second_in (LowerCase i) h = omega (arith, wf.two)
    second_in (UpperCase i) h = omega (arith, wf.two)
    second_in (LetterRemoval i) h = wf.activation_in i h
    second_in (OwnLiteral j) h = omega (arith, wf.two)
    second_in (LiteralRemoval j) h = (wf.observer_in j h).1

    pub count_in : (r : Rule) → second_count P r ≤ width P
    count_in (Propagation e) = one-le-mul (pow_pos _) (four_pos _)
    count_in (LowerCase i) = one-le-mul (pow_pos _) (four_pos _)
    count_in (UpperCase i) = one-le-mul (pow_pos _) (four_pos _)
    count_in (LetterRemoval i) = le_refl _
    count_in (OwnLiteral j) = one-le-mul (pow_pos _) (four_pos _)
    count_in (LiteralRemoval j) = le_refl _

    -- what a pair of places gives is given by the rules
    pub pair_given : (r : Rule) → InPlan P r → (t u : ℕ) → t < width P → u < second_count P r → Is (gives P A x r t u) → Given P (Cell P A) (given_line P A x r t u) × ((given_line P A x r t u).point ≡ x)
    pair_given r h t u k m g = (record { rule = r; row = h; first = first_of P A x r t; second = second_of P A r u; first_is = line_parent (first_point P r x) t (first_in r h) k (and_l a b (and_l (a && b) c (and_l (a && b && c) d g))); second_is = line_parent (second_point P r) u (second_in r h) (le_trans m (count_in r)) (and_r a b (and_l (a && b) c (and_l (a && b && c) d g))); fire = and_r (a && b) c (and_l (a && b && c) d g); gave = refl }, eqb→eq _ _ (and_r (a && b && c) d g))
      where
        a : Bool
        a = is_line P A (first_point P r x) t

        b : Bool
        b = is_line P A (second_point P r) u

        c : Bool
        c = fires P r (first_of P A x r t) (second_of P A r u)

        d : Bool
        d = eqb (result P r (first_of P A x r t) (second_of P A r u)).point x

    pair_raises : (r : Rule) → InPlan P r → (t u : ℕ) → t < width P → u < second_count P r → Raises (width P) (λ c w. Is (gives P A x r t u) × ((c ≡ place P (given_line P A x r t u)) × (w ≡ (given_line P A x r t u).wait))) (step_of_pair P A x r t u)
    unfolding step_of_pair
    pair_raises r h t u k m = raises_when (width P) _ _ (gives P A x r t u) (λ g. raises_cell (width P) (place P (given_line P A x r t u)) (given_line P A x r t u).wait (place_lt _ (range P wf (λ l c. c.inside) (pair_given r h t u k m g).0)))

    row_raises : (r : Rule) → InPlan P r → Raises (width P) (Pair P A x r) (row_step P A x r)
    unfolding row_step
    row_raises r h = raises_iff (width P) _ (Pair P A x r) _
        (λ c w s. record { first_place = s.index; second_place = s.holds.index; first_lt = s.below; second_lt = s.holds.below; does_give = s.holds.holds.0; place_is = s.holds.holds.1.0; wait_is = s.holds.holds.1.1 })
        (λ c w q. record { index = q.first_place; below = q.first_lt; holds = record { index = q.second_place; below = q.second_lt; holds = (q.does_give, (q.place_is, q.wait_is)) } })
        (raises_steps (width P) _ _ (width P) (λ t k. raises_steps (width P) _ _ (second_count P r) (λ u m. pair_raises r h t u k m)))

    -- the rows of one kind
    kind_raises : (f : ℕ → Rule) (n : ℕ) → ((i : ℕ) → i < n → InPlan P (f i)) → Raises (width P) (Some (λ i. Pair P A x (f i)) n) (steps (λ i. row_step P A x (f i)) n)
    kind_raises f n h = raises_steps (width P) (λ i. Pair P A x (f i)) (λ i. row_step P A x (f i)) n (λ i k. row_raises (f i) (h i k))

    -- the rows of one link, and of one proposition
    OfLink : ℕ → ℕ → ℕ → Type 0
    OfLink i c w = (((Pair P A x (LowerCase i) c w ⊎ Pair P A x (Propagation (UpperBound i)) c w) ⊎ Pair P A x (UpperCase i) c w) ⊎ Pair P A x (Propagation (LowerBound i)) c w) ⊎ Pair P A x (LetterRemoval i) c w

    link_raises : (i : ℕ) → i < P.links → Raises (width P) (OfLink i) (λ C. row_step P A x (LetterRemoval i) (row_step P A x (Propagation (LowerBound i)) (row_step P A x (UpperCase i) (row_step P A x (Propagation (UpperBound i)) (row_step P A x (LowerCase i) C)))))
    unfolding OfLink
    link_raises i h =
        raises_then (width P) _ _ _ _ (raises_then (width P) _ _ _ _ (raises_then (width P) _ _ _ _ (raises_then (width P) _ _ _ _
        (row_raises (LowerCase i) h) (row_raises (Propagation (UpperBound i)) h)) (row_raises (UpperCase i) h)) (row_raises (Propagation (LowerBound i)) h)) (row_raises (LetterRemoval i) h)

    OfProp : ℕ → ℕ → ℕ → Type 0
    OfProp j c w = Pair P A x (OwnLiteral j) c w ⊎ Pair P A x (LiteralRemoval j) c w

    pub fill_raises : Raises (width P) (Row P A x) (fill_point P A x)
    unfolding fill_point OfLink OfProp
    fill_raises = raises_iff (width P) _ (Row P A x) _ to back
        (raises_then (width P) _ _ _ _
        (raises_then (width P) _ _ _ _
        (raises_then (width P) _ _ _ _
        (kind_raises (λ i. Propagation (PlanEdge i)) P.edges (λ i h. h))
        (kind_raises (λ y. Propagation (HorizonEdge (suc y))) (P.points - 1) (λ y h. (omega arith, omega arith))))
        (raises_steps (width P) OfLink _ P.links link_raises))
        (raises_steps (width P) OfProp _ P.propositions (λ j h. raises_then (width P) _ _ _ _ (row_raises (OwnLiteral j) h) (row_raises (LiteralRemoval j) h))))
      where
        E : ℕ → ℕ → Type 0
        E c w = ((Some (λ i. Pair P A x (Propagation (PlanEdge i))) P.edges c w ⊎ Some (λ y. Pair P A x (Propagation (HorizonEdge (suc y)))) (P.points - 1) c w) ⊎ Some OfLink P.links c w) ⊎ Some OfProp P.propositions c w

        link : (i c w : ℕ) → i < P.links → OfLink i c w → Row P A x c w
        link i c w h (inl (inl (inl (inl q)))) = record { rule = LowerCase i; row = h; pair = q }
        link i c w h (inl (inl (inl (inr q)))) = record { rule = Propagation (UpperBound i); row = h; pair = q }
        link i c w h (inl (inl (inr q))) = record { rule = UpperCase i; row = h; pair = q }
        link i c w h (inl (inr q)) = record { rule = Propagation (LowerBound i); row = h; pair = q }
        link i c w h (inr q) = record { rule = LetterRemoval i; row = h; pair = q }

        prop : (j c w : ℕ) → j < P.propositions → OfProp j c w → Row P A x c w
        prop j c w h (inl q) = record { rule = OwnLiteral j; row = h; pair = q }
        prop j c w h (inr q) = record { rule = LiteralRemoval j; row = h; pair = q }

        to : (c w : ℕ) → E c w → Row P A x c w
        to c w (inr s) = prop s.index c w s.below s.holds
        to c w (inl (inr s)) = link s.index c w s.below s.holds
        to c w (inl (inl (inr s))) = record { rule = Propagation (HorizonEdge (suc s.index)); row = (omega arith, omega (arith, s.below)); pair = s.holds }
        to c w (inl (inl (inl s))) = record { rule = Propagation (PlanEdge s.index); row = s.below; pair = s.holds }

        from : (r : Rule) → InPlan P r → (c w : ℕ) → Pair P A x r c w → E c w
        from (Propagation (PlanEdge i)) h c w q = inl (inl (inl (record { index = i; below = h; holds = q })))
        from (Propagation (HorizonEdge zero)) h c w q = absurd (omega (arith, h.0))
        from (Propagation (HorizonEdge (suc y))) h c w q = inl (inl (inr (record { index = y; below = omega (arith, h.1); holds = q })))
        from (Propagation (UpperBound i)) h c w q = inl (inr (record { index = i; below = h; holds = inl (inl (inl (inr q))) }))
        from (Propagation (LowerBound i)) h c w q = inl (inr (record { index = i; below = h; holds = inl (inr q) }))
        from (LowerCase i) h c w q = inl (inr (record { index = i; below = h; holds = inl (inl (inl (inl q))) }))
        from (UpperCase i) h c w q = inl (inr (record { index = i; below = h; holds = inl (inl (inr q)) }))
        from (LetterRemoval i) h c w q = inl (inr (record { index = i; below = h; holds = inr q }))
        from (OwnLiteral j) h c w q = inr (record { index = j; below = h; holds = inl q })
        from (LiteralRemoval j) h c w q = inr (record { index = j; below = h; holds = inr q })

        back : (c w : ℕ) → Row P A x c w → E c w
        back c w q = from q.rule q.row c w q.pair

    only : (t w : ℕ) → Row P A x t w → (v : ℕ) × (w ≤ v) × FromTable P A (x * width P + t) v
    only t w q =
        let p = q.pair in
        let g = pair_given q.rule q.row p.first_place p.second_place p.first_lt p.second_lt p.does_give in
        let k : Line = given_line P A x q.rule p.first_place p.second_place in
        (w, le_refl w, record { line = k; given_from = g.0; cell_is = cell_place k ∙ ap (λ (y : ℕ). y * width P + place P k) g.1 ∙ ap (λ (c : ℕ). x * width P + c) (sym p.place_is); wait_is = sym p.wait_is })

    first_point_lem : (r : Rule) (l m : Line) → Fires P r l m → (result P r l m).point ≡ x → l.point ≡ first_point P r x
    first_point_lem (Propagation e) l m f z = f.0
    first_point_lem (LowerCase i) l m f z = f.0
    first_point_lem (UpperCase i) l m f z = f.0
    first_point_lem (LetterRemoval i) l m f z = z
    first_point_lem (OwnLiteral j) l m f z = z
    first_point_lem (LiteralRemoval j) l m f z = z

    -- a second parent of these loops, for any that the rules take, and with it a wait no shorter
    Second : Rule → Line → Line → ℕ → Type 0
    Second r l m v = (u : ℕ) × (u < second_count P r) × Is (is_line P A (second_point P r) u) × Fires P r (waiting l v) (second_of P A r u) × (w : ℕ) × ((result P r l m).wait ≤ w) × (result P r (waiting l v) (second_of P A r u) ≡ waiting (result P r l m) w)

    second_found : (r : Rule) (l m : Line) (v : ℕ) → l.wait ≤ v → Parent P (Cell P A) m → Fires P r l m → Second r l m v
    unfolding Second
    second_found (Propagation e) l m v h p f = (0, omega arith, tt, fires_mono P (Propagation e) l m v m.wait h (le_refl _) f, _, result_mono P (Propagation e) l m v m.wait h (le_refl _), refl)
    second_found (LowerCase i) l m v h p f = (0, omega arith, tt, fires_mono P (LowerCase i) l m v m.wait h (le_refl _) f, _, result_mono P (LowerCase i) l m v m.wait h (le_refl _), refl)
    second_found (UpperCase i) l m v h p f = (0, omega arith, tt, fires_mono P (UpperCase i) l m v m.wait h (le_refl _) f, _, result_mono P (UpperCase i) l m v m.wait h (le_refl _), refl)
    second_found (OwnLiteral j) l m v h p f = (0, omega arith, tt, fires_mono P (OwnLiteral j) l m v m.wait h (le_refl _) f, _, result_mono P (OwnLiteral j) l m v m.wait h (le_refl _), refl)
    second_found (LetterRemoval i) l m v h p f =
        let n = found m p in
        let e : line_of P A (P.activation i) n.place_of ≡ waiting m n.to = ap (λ (y : ℕ). line_of P A y n.place_of) (sym f.1) ∙ n.line_is in
        (n.place_of, n.place_in, subst (λ (y : ℕ). Is (is_line P A y n.place_of)) f.1 n.is_line, subst (λ (z : Line). Fires P (LetterRemoval i) (waiting l v) z) (sym e) (fires_mono P (LetterRemoval i) l m v n.to h n.no_less f), _, result_mono P (LetterRemoval i) l m v n.to h n.no_less, ap (result P (LetterRemoval i) (waiting l v)) e ∙ sym (result_cell P (LetterRemoval i) l m v n.to))
    second_found (LiteralRemoval j) l m v h p f =
        let n = found m p in
        let e : line_of P A (P.observer j) n.place_of ≡ waiting m n.to = ap (λ (y : ℕ). line_of P A y n.place_of) (sym f.1) ∙ n.line_is in
        (n.place_of, n.place_in, subst (λ (y : ℕ). Is (is_line P A y n.place_of)) f.1 n.is_line, subst (λ (z : Line). Fires P (LiteralRemoval j) (waiting l v) z) (sym e) (fires_mono P (LiteralRemoval j) l m v n.to h n.no_less f), _, result_mono P (LiteralRemoval j) l m v n.to h n.no_less, ap (result P (LiteralRemoval j) (waiting l v)) e ∙ sym (result_cell P (LiteralRemoval j) l m v n.to))

    pub all : (t w : ℕ) → t < width P → FromTable P A (x * width P + t) w → (v : ℕ) × (w ≤ v) × Row P A x t v
    unfolding Second
    all t w h f = (s.4, omega (arith, s.5, f.wait_is, ap (λ (z : Line). z.wait) g.gave), record { rule = r; row = g.row; pair = record { first_place = n.place_of; second_place = s.0; first_lt = n.place_in; second_lt = s.1; does_give = going; place_is = sym (ap (place P) res ∙ ap (place P) g.gave ∙ k_place); wait_is = sym (ap (λ (z : Line). z.wait) res) } })
      where
        k : Line
        k = f.line

        g : Given P (Cell P A) k
        g = f.given_from

        r : Rule
        r = g.rule

        l : Line
        l = g.first

        k_in : InRange P k
        k_in = range P wf (λ l c. c.inside) g

        same_cell : k.point * width P + place P k ≡ x * width P + t
        same_cell = sym (cell_place k) ∙ f.cell_is

        k_point : k.point ≡ x
        k_point = sym (digit_div k.point (width P) (place P k) (place_lt k k_in)) ∙ ap (λ (c : ℕ). c / width P) same_cell ∙ digit_div x (width P) t h

        k_place : place P k ≡ t
        k_place = sym (digit_mod k.point (width P) (place P k) (place_lt k k_in)) ∙ ap (λ (c : ℕ). c % width P) same_cell ∙ digit_mod x (width P) t h

        n : Found l
        n = found l g.first_is

        e : l.point ≡ first_point P r x
        e = first_point_lem r l g.second (given_fires g) (ap (λ (z : Line). z.point) g.gave ∙ k_point)

        s : Second r l g.second n.to
        s = second_found r l g.second n.to n.no_less g.second_is (given_fires g)

        at_first : first_of P A x r n.place_of ≡ waiting l n.to
        at_first = ap (λ (y : ℕ). line_of P A y n.place_of) (sym e) ∙ n.line_is

        res : given_line P A x r n.place_of s.0 ≡ waiting (result P r l g.second) s.4
        res = ap (λ (z : Line). result P r z (second_of P A r s.0)) at_first ∙ s.6

        going : Is (gives P A x r n.place_of s.0)
        going =
            let a : Is (is_line P A (first_point P r x) n.place_of) = subst (λ (y : ℕ). Is (is_line P A y n.place_of)) e n.is_line in
            let b : Is (is_line P A (second_point P r) s.0) = s.2 in
            let c : Is (fires P r (first_of P A x r n.place_of) (second_of P A r s.0)) = facts_fire P r (first_of P A x r n.place_of) (second_of P A r s.0) (subst (λ (z : Line). Fires P r z (second_of P A r s.0)) (sym at_first) s.3) in
            let d : Is (eqb (given_line P A x r n.place_of s.0).point x) = eq→eqb (ap (λ (z : Line). z.point) res ∙ ap (λ (z : Line). z.point) g.gave ∙ k_point) in
            search and_i

    pub fill_point_lem : part P x (next P A) ≡ fill_point P A x (part P x A)
    fill_point_lem = next_part_lem P wf A len x inside (Row P A x) (fill_point P A x) fill_raises only all

    -- a row whose rule gives no line of point x does nothing: a loop may pass it over
    pub row_idle : (r : Rule) → ((l m : Line) → (result P r l m).point ≡ x → ⊥) → (B : List ℕ) → row_step P A x r B ≡ B
    unfolding row_step step_of_pair
    row_idle r no_line B = steps_idle _ (width P) (λ t h C. steps_idle _ (second_count P r) (λ u k D. sym (when_false (gives P A x r t u) _ D (off t u))) C) B
      where
        off : (t u : ℕ) → gives P A x r t u ≡ false
        off t u = last (is_line P A (first_point P r x) t && is_line P A (second_point P r) u && fires P r (first_of P A x r t) (second_of P A r u)) (eqb (given_line P A x r t u).point x) (ne_eqb (given_line P A x r t u).point x (no_line (first_of P A x r t) (second_of P A r u)))
          where
            last : (a b : Bool) → b ≡ false → a && b ≡ false
            last true b e = e
            last false b e = refl
