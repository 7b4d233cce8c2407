-- A cell that a round raised has a ground in the table before it: a rule gives just its line from two cells that hold lines.
use mathlib.Core.Path.{◌≡◌, sym, ap, subst, ◌∙◌}
use mathlib.Core.Bool.{Bool, true, false, ◌||◌}
use mathlib.Core.Logic.{◌⊎◌, inl, inr}
use mathlib.Core.List.{List}
use Prim.Native.Nat.{ℕ, ◌+◌, ◌*◌, ◌/◌, ◌%◌, ◌<◌}
use native.Mathlib.Nat.{div-add-mod', div-lt_iff_lt-mul, mod-lt, le_trans, one-le-mul, mul-le-mul_right}
use native.Mathlib.Omega.{arith}
use lib.Dec.{T as Is, ltb, eqb, eqb→eq}
use lib.Ieee.Fits.{and_l, and_r, eq→eqb}
use lib.ListN.{length, get_or, drop, length-take, length-drop}
use lib.Pow.{pow_pos}
use lib.Seq.{get_or-take, get_or-drop}
use Rattle.plan.specs.Plan.{Plan, width, cells}
use Rattle.plan.proofs.LabelLaws.{four_pos}
use Rattle.plan.proofs.Ranges.{WellFormed}
use Rattle.plan.proofs.Truth.{or_left, or_right}
use Rattle.rules.specs.declared.Line.{Line}
use Rattle.rules.specs.declared.Ground.{Ground}
use Rattle.rules.specs.declared.Rule.{Rule}
use Rattle.rules.specs.Lines.{cell_of, line_at}
use Rattle.rules.specs.Rules.{fires, result}
use Rattle.rules_fill.specs.Parents.{first_point, second_point}
use Rattle.rules.specs.Tables.{next}
use Rattle.rules_fill.specs.Parts.{part}
use Rattle.rules.proofs.InRange.{InRange, result_range}
use Rattle.rules.proofs.Monotone.{waiting}
use Rattle.rules.proofs.Cells.{digit_lt, digit_mod, line_at_lem}
use Rattle.rules_fill.proofs.PointLaws.{place, wait_at, line_of, is_line, first_of, second_of, gives, given_line, fill_point, Pair, Row, cell_place, line_range, line_place, first_in, second_in, count_in, fill_raises, fill_point_lem}
use Rattle.rules_ground.specs.Grounds.{holds_line, Grounds}

-- some ground of a line
pub record Grounded (P : Plan) (T : List ℕ) (k : Line) : Type 0 where
  pub ground : Ground
  pub grounds : Grounds P T k ground

or_either : (a b c : Bool) → (Is a → Is c) → (Is b → Is c) → Is (a || b) → Is c
or_either true b c f g t = f t
or_either false b c f g t = g t

module _ (P : Plan) (wf : WellFormed P) (T : List ℕ) (len : length T ≡ cells P) where
  -- the cell at place t of point y
  module _ (y t : ℕ) (h : y < P.points) (k : t < width P) where
    cell_in : y * width P + t < cells P
    cell_in = digit_lt y P.points (width P) t h k

    line_there : line_of P T y t ≡ line_at P T (y * width P + t)
    line_there = sym (ap (line_at P T) (sym cell) ∙ line_at_lem P T (line_of P T y t) (line_range P wf T len y t h k) ∙ ap (λ (c : ℕ). waiting (line_of P T y t) (get_or T c 0)) cell)
      where
        cell : cell_of P (line_of P T y t) ≡ y * width P + t
        cell = cell_place P wf T len (line_of P T y t) ∙ ap (λ (c : ℕ). y * width P + c) (line_place P wf T len y t)

    holds_there : Is (is_line P T y t) → Is (holds_line P T (y * width P + t))
    unfolding holds_line
    holds_there =
        let c : ℕ = y * width P + t in
        or_either (eqb t 0) (ltb 0 (wait_at P T y t)) (holds_line P T c)
        (λ z. or_right (ltb 0 (get_or T c 0)) (eqb (c % width P) 0) (eq→eqb (digit_mod y (width P) t k ∙ eqb→eq t 0 z)))
        (λ z. or_left (ltb 0 (get_or T c 0)) (eqb (c % width P) 0) z)

  module _ (x t : ℕ) (inside : x < P.points) (here : t < width P) where
    -- the cell's wait is one that a pair of places gives
    raised_row : (get_or (next P T) (x * width P + t) 0 ≡ get_or T (x * width P + t) 0 → ⊥) → Row P T x t (get_or (next P T) (x * width P + t) 0)
    raised_row new = go ((fill_raises P wf T len x inside).reason (part P x T) long t)
      where
        there : (A : List ℕ) → get_or (part P x A) t 0 ≡ get_or A (x * width P + t) 0
        there A = get_or-take (width P) (drop (x * width P) A) t 0 here ∙ get_or-drop (x * width P) A t 0

        long : length (part P x T) ≡ width P
        long = simp (length-take, length-drop) (omega (arith, mul-le-mul_right (width P) inside))

        e : get_or (fill_point P T x (part P x T)) t 0 ≡ get_or (next P T) (x * width P + t) 0
        e = ap (λ (A : List ℕ). get_or A t 0) (sym (fill_point_lem P wf T len x inside)) ∙ there (next P T)

        go : (get_or (fill_point P T x (part P x T)) t 0 ≡ get_or (part P x T) t 0) ⊎ Row P T x t (get_or (fill_point P T x (part P x T)) t 0) → Row P T x t (get_or (next P T) (x * width P + t) 0)
        go (inl q) = absurd (new (sym e ∙ q ∙ there T))
        go (inr r) = subst (Row P T x t) e r

    -- the cells of such a pair are a ground of the line that a table with that wait holds there
    pair_ground : (U : List ℕ) → Row P T x t (get_or U (x * width P + t) 0) → Grounded P T (line_at P U (x * width P + t))
    pair_ground U q = record { ground = record { by = r; first = c; second = d }; grounds = record { row = q.row; first_in = cell_in y a y_in p.first_lt; second_in = cell_in z b z_in b_lt; first_line = holds_there y a y_in p.first_lt (first_is p.does_give); second_line = holds_there z b z_in b_lt (second_is p.does_give); fire = subst Is (ap (λ (l : Line). fires P r l (second_of P T r b)) first_line_lem ∙ ap (fires P r (line_at P T c)) second_line) (fired p.does_give); gave = ap (λ (l : Line). result P r l (line_at P T d)) (sym first_line_lem) ∙ ap (result P r (first_of P T x r a)) (sym second_line) ∙ is_line_lem } }
      where
        r : Rule
        r = q.rule

        p : Pair P T x q.rule t (get_or U (x * width P + t) 0)
        p = q.pair

        a : ℕ
        a = q.pair.first_place

        b : ℕ
        b = q.pair.second_place

        y : ℕ
        y = first_point P q.rule x

        z : ℕ
        z = second_point P q.rule

        c : ℕ
        c = first_point P q.rule x * width P + q.pair.first_place

        d : ℕ
        d = second_point P q.rule * width P + q.pair.second_place

        y_in : first_point P q.rule x < P.points
        y_in = first_in P wf T len x inside q.rule q.row

        z_in : second_point P q.rule < P.points
        z_in = second_in P wf T len x inside q.rule q.row

        b_lt : q.pair.second_place < width P
        b_lt = le_trans q.pair.second_lt (count_in P wf T len x inside q.rule)

        first_line_lem : first_of P T x q.rule q.pair.first_place ≡ line_at P T c
        first_line_lem = line_there y a y_in p.first_lt

        second_line : second_of P T q.rule q.pair.second_place ≡ line_at P T d
        second_line = line_there z b z_in b_lt

        first_is : Is (gives P T x r a b) → Is (is_line P T y a)
        first_is g = search (and_l, and_r)

        second_is : Is (gives P T x r a b) → Is (is_line P T z b)
        second_is g = search (and_l, and_r)

        fired : Is (gives P T x r a b) → Is (fires P r (first_of P T x r a) (second_of P T r b))
        fired g = search (and_l, and_r)

        at_point : Is (gives P T x r a b) → Is (eqb (given_line P T x r a b).point x)
        at_point g = search (and_l, and_r)

        k : Line
        k = given_line P T x q.rule q.pair.first_place q.pair.second_place

        k_in : InRange P k
        k_in = result_range P wf r q.row _ _ (line_range P wf T len y a y_in p.first_lt) (line_range P wf T len z b z_in b_lt)

        cell : cell_of P k ≡ x * width P + t
        cell = cell_place P wf T len k ∙ ap (λ (v : ℕ). v * width P + place P k) (eqb→eq k.point x (at_point p.does_give)) ∙ ap (λ (v : ℕ). x * width P + v) (sym p.place_is)

        is_line_lem : k ≡ line_at P U (x * width P + t)
        is_line_lem = sym (ap (line_at P U) (sym cell) ∙ line_at_lem P U k k_in ∙ ap (waiting k) (ap (λ (v : ℕ). get_or U v 0) cell ∙ p.wait_is))

  pub raised_grounded : (c : ℕ) → c < cells P → (get_or (next P T) c 0 ≡ get_or T c 0 → ⊥) → Grounded P T (line_at P (next P T) c)
  raised_grounded c h new = subst (λ (v : ℕ). Grounded P T (line_at P (next P T) v)) cell (pair_ground (c / width P) (c % width P) x_in t_in (next P T) (raised_row (c / width P) (c % width P) x_in t_in (λ e. new (subst (λ (v : ℕ). get_or (next P T) v 0 ≡ get_or T v 0) cell e))))
    where
      pos : 0 < width P
      pos = one-le-mul (pow_pos _) (four_pos _)

      cell : c / width P * width P + c % width P ≡ c
      cell = div-add-mod' c (width P)

      x_in : c / width P < P.points
      x_in = (div-lt_iff_lt-mul pos).1 h

      t_in : c % width P < width P
      t_in = mod-lt c pos
