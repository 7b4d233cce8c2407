-- Where a ground's parents lie, by their places: what the search passes over holds none.
use mathlib.Core.Path.{◌≡◌, refl, sym, ap, ap₂, subst, ◌∙◌}
use mathlib.Core.Bool.{Bool, true, false}
use mathlib.Core.List.{List}
use Prim.Native.Nat.{ℕ, ◌+◌, ◌-◌, ◌*◌, ◌≤◌, ◌<◌, min}
use native.Mathlib.Nat.{zero-mod, add_assoc}
use native.Mathlib.Omega.{arith}
use lib.Bits.{bit_and, bit_or}
use lib.Dec.{T as Is, ltb}
use lib.Ieee.Fits.{and_l, and_r, and_i, eq→eqb}
use lib.ListN.{get_or}
use Rattle.plan.specs.Plan.{Plan, width, cells}
use Rattle.plan.proofs.Ranges.{WellFormed}
use Rattle.plan.proofs.Truth.{is_not, or_right}
use Rattle.rules.specs.declared.Line.{Line}
use Rattle.rules.specs.declared.Ground.{Ground}
use Rattle.rules.specs.declared.Rule.{Rule}
use Rattle.rules.specs.declared.Rule.TheVariants.{Propagation, LowerCase, UpperCase, LetterRemoval, OwnLiteral, LiteralRemoval}
use Rattle.rules_apply.specs.Applying.{is_same_line, gives_line_of}
use Rattle.rules.specs.Lines.{line_at}
use Rattle.rules.specs.Rules.{fires, result, uses_second}
use Rattle.rules.specs.Derivations.{InPlan}
use Rattle.rules.proofs.Deriving.{fires_facts}
use Rattle.rules.proofs.InRange.{InRange, result_range}
use Rattle.rules.proofs.Cells.{cell_at, at_range}
use Rattle.rules_apply.proofs.SameLines.{same_equal, equal_same}
use Rattle.rules_fill.specs.Parents.{first_point, second_point}
use Rattle.rules_ground.specs.Grounds.{holds_line, Grounds}
use Rattle.rules_ground.specs.Places.{SomeWithin}
use Rattle.rules_ground.specs.Rows.{cut_place, place_of, removed_bits, up_of, down_of}
use Rattle.rules_ground.specs.Searching.{gives_with, SecondAt, FirstAt, ByRule}
use Rattle.rules_ground.proofs.PlaceLaws.{first_within, joined_second, second_joined, untouched, one_enough, one_waits, two_wait}

-- ---- one pair of parents
is : {b : Bool} → b ≡ true → Is b
is e = subst Is (sym e) tt

module _ (P : Plan) (T : List ℕ) (k : Line) (r : Rule) (l : Line) (d : ℕ) where
  pub pair_empty : (b : Bool) → b ≡ holds_line P T d → b ≡ false → false ≡ gives_with P T k r l d
  pair_empty b e t = rw (← e, t)

  pub pair_tested : (m : Line) (b g : Bool) → b ≡ holds_line P T d → b ≡ true → m ≡ line_at P T d → g ≡ gives_line_of P r l m k → g ≡ gives_with P T k r l d
  pair_tested m b g e t q h = rw (← e, t, ← q) h

module _ (P : Plan) (T : List ℕ) (k : Line) (r : Rule) (c d : ℕ) where
  pub pair_grounds : (l : Line) (b : Bool) → InPlan P r → c < cells P → Is (holds_line P T c) → d < cells P → l ≡ line_at P T c → b ≡ gives_with P T k r l d → b ≡ true → SecondAt P T k r c d
  unfolding gives_line_of
  pair_grounds l b row hc first_holds hd e q t =
      let h = both in
      record { row = row; first_in = hc; second_in = hd; first_line = first_holds; second_line = search and_l; fire = search (and_l, and_r); gave = same_equal _ _ (search (and_l, and_r)) }
    where
      both : Is (gives_with P T k r (line_at P T c) d)
      both = is (ap (λ (z : Line). gives_with P T k r z d) (sym e) ∙ sym q ∙ t)

  pub pair_fails : (l : Line) (b : Bool) → l ≡ line_at P T c → b ≡ gives_with P T k r l d → b ≡ false → SecondAt P T k r c d → ⊥
  unfolding gives_line_of
  pair_fails l b e q t g = is_not (ap (λ (z : Line). gives_with P T k r z d) (sym e) ∙ sym q ∙ t) both
    where
      both : Is (gives_with P T k r (line_at P T c) d)
      both =
          let h : Is (holds_line P T d) = g.second_line in
          let f : Is (fires P r (line_at P T c) (line_at P T d)) = g.fire in
          let s : Is (is_same_line (result P r (line_at P T c) (line_at P T d)) k) = equal_same _ _ g.gave in
          search and_i

-- ---- where the parents lie
module _ (P : Plan) (T : List ℕ) where
  pub start_holds : Is (holds_line P T 0)
  unfolding holds_line
  start_holds = or_right (ltb 0 (get_or T 0 0)) _ (eq→eqb (zero-mod (width P)))

  pub holding : (c : ℕ) (b : Bool) → b ≡ holds_line P T c → b ≡ true → Is (holds_line P T c)
  holding c b e t = is (sym e ∙ t)

  -- a cell among the cells of point x, by its line's place
  cell_there : (c x : ℕ) → (line_at P T c).point ≡ x → c ≡ x * width P + place_of P (line_at P T c)
  cell_there c x e = rw (← e) (omega (arith, cell_at P T c))

  module _ (k : Line) (c : ℕ) where
    pub empty_first : (r : Rule) (d : ℕ) (b : Bool) → b ≡ holds_line P T c → b ≡ false → SecondAt P T k r c d → ⊥
    empty_first r d b e t g = is_not (sym e ∙ t) g.first_line

    -- a rule of one parent takes cell 0 as its second
    start_second : (r : Rule) → uses_second r ≡ false → 0 < cells P → (d : ℕ) → SecondAt P T k r c d → SecondAt P T k r c 0
    start_second (Propagation e) t z d g = record { row = g.row; first_in = g.first_in; second_in = z; first_line = g.first_line; second_line = start_holds; fire = g.fire; gave = g.gave }
    start_second (LowerCase i) t z d g = record { row = g.row; first_in = g.first_in; second_in = z; first_line = g.first_line; second_line = start_holds; fire = g.fire; gave = g.gave }
    start_second (UpperCase i) t z d g = record { row = g.row; first_in = g.first_in; second_in = z; first_line = g.first_line; second_line = start_holds; fire = g.fire; gave = g.gave }
    start_second (LetterRemoval i) t z d g = absurd (is_not t tt)
    start_second (OwnLiteral j) t z d g = record { row = g.row; first_in = g.first_in; second_in = z; first_line = g.first_line; second_line = start_holds; fire = g.fire; gave = g.gave }
    start_second (LiteralRemoval j) t z d g = absurd (is_not t tt)

    pub second_start : (r : Rule) → uses_second r ≡ false → FirstAt P T k r c → SecondAt P T k r c 0
    second_start r t f = start_second r t (omega (arith, f.ground.first_in)) f.second f.ground

    second_point_lem : (r : Rule) (l m : Line) → uses_second r ≡ true → Is (fires P r l m) → m.point ≡ second_point P r
    second_point_lem (Propagation e) l m t f = absurd (is t)
    second_point_lem (LowerCase i) l m t f = absurd (is t)
    second_point_lem (UpperCase i) l m t f = absurd (is t)
    second_point_lem (LetterRemoval i) l m t f = (fires_facts P (LetterRemoval i) l m f).1
    second_point_lem (OwnLiteral j) l m t f = absurd (is t)
    second_point_lem (LiteralRemoval j) l m t f = (fires_facts P (LiteralRemoval j) l m f).1

    -- rules 4 and 6 give the lesser of two waits
    pub short_first : (r : Rule) → uses_second r ≡ true → (v : ℕ) → v ≡ get_or T c 0 → v < k.wait → FirstAt P T k r c → ⊥
    short_first r t v e h f = omega (arith, two_wait P r t (line_at P T c) (line_at P T f.second), ap (λ (z : Line). z.wait) f.ground.gave)

    pub other_wait_lem : (r : Rule) → uses_second r ≡ true → (d a b w n : ℕ) → a ≡ get_or T c 0 → b ≡ get_or T d 0 → w ≡ down_of P r → n ≡ min a (b + w) → (n ≡ k.wait → ⊥) → SecondAt P T k r c d → ⊥
    other_wait_lem r t d a b w n ea eb ew en h g = h (en ∙ same ∙ sym (two_wait P r t (line_at P T c) (line_at P T d)) ∙ ap (λ (z : Line). z.wait) g.gave)
      where
        same : min a (b + w) ≡ min (get_or T c 0) (get_or T d 0 + down_of P r)
        same = rw (ea, eb, ew) refl

    -- rules of one parent take their weight from its wait
    pub light_first : (r : Rule) → uses_second r ≡ false → (v u w : ℕ) → v ≡ get_or T c 0 → u ≡ up_of P r → w ≡ down_of P r → v + w < u → FirstAt P T k r c → ⊥
    light_first r t v u w ev eu ew h f = omega (arith, one_enough P r t (line_at P T c) (line_at P T f.second) f.ground.fire)

    pub other_first : (r : Rule) → uses_second r ≡ false → (v u w : ℕ) → v ≡ get_or T c 0 → u ≡ up_of P r → w ≡ down_of P r → (v + w - u ≡ k.wait → ⊥) → FirstAt P T k r c → ⊥
    other_first r t v u w ev eu ew h f = h (same ∙ sym (one_waits P r t (line_at P T c) (line_at P T f.second)) ∙ ap (λ (z : Line). z.wait) f.ground.gave)
      where
        same : v + w - u ≡ get_or T c 0 + down_of P r - up_of P r
        same = rw (ev, eu, ew) refl

  module _ (k : Line) where
    first_point_lem : (r : Rule) (l m : Line) → Is (fires P r l m) → result P r l m ≡ k → l.point ≡ first_point P r k.point
    first_point_lem (Propagation e) l m f q = (fires_facts P (Propagation e) l m f).0
    first_point_lem (LowerCase i) l m f q = (fires_facts P (LowerCase i) l m f).0
    first_point_lem (UpperCase i) l m f q = (fires_facts P (UpperCase i) l m f).0
    first_point_lem (LetterRemoval i) l m f q = ap (λ (z : Line). z.point) q
    first_point_lem (OwnLiteral j) l m f q = ap (λ (z : Line). z.point) q
    first_point_lem (LiteralRemoval j) l m f q = ap (λ (z : Line). z.point) q

    -- where the first parent lies, and where the second
    module _ (wf : WellFormed P) (r : Rule) (row : InPlan P r) (y w K m : ℕ) (first_is : y ≡ first_point P r k.point) (width_is : w ≡ width P) (place_is : K ≡ cut_place P k) (removed_is : m ≡ removed_bits P r) where
      pub first_there : ByRule r P T k → SomeWithin (λ t. FirstAt P T k r (y * w + t)) (bit_or K m)
      first_there b =
          let g = b.at_first.ground in
          let l = line_at P T b.first in
          let e : b.first ≡ y * w + place_of P l = cell_there b.first y (first_point_lem r _ _ g.fire g.gave ∙ sym first_is) ∙ ap (λ (z : ℕ). y * z + place_of P l) (sym width_is) in
          record {
            index = place_of P l;
            within = rw (place_is, removed_is) (first_within P wf r row l (line_at P T b.at_first.second) k (at_range P T _ g.first_in) (at_range P T _ g.second_in) g.gave);
            holds = subst (FirstAt P T k r) e b.at_first;
          }

      -- the first parent's place, where it lies at place t
      module _ (t : ℕ) (f : FirstAt P T k r (y * w + t)) where
        place_there : place_of P (line_at P T (y * w + t)) ≡ t
        place_there =
            let g = f.ground in
            omega (arith, cell_there (y * w + t) y (first_point_lem r _ _ g.fire g.gave ∙ sym first_is), ap (λ (z : ℕ). y * z) width_is)

        pub not_removed : uses_second r ≡ true → bit_and t m ≡ 0 → ⊥
        not_removed u z =
            let g = f.ground in
            untouched P r u row _ _ (at_range P T _ g.first_in) (ap₂ bit_and place_there (sym removed_is) ∙ z) g.fire

        pub second_there : (z : ℕ) → uses_second r ≡ true → z ≡ second_point P r → SomeWithin (λ v. SecondAt P T k r (y * w + t) (z * w + (K - bit_and K (t - bit_and t m)) + v)) (bit_and K (t - bit_and t m))
        second_there z u q =
            let g = f.ground in
            let l = line_at P T (y * w + t) in
            let n = line_at P T f.second in
            let joined = second_joined P wf r u row l n k (at_range P T _ g.first_in) (at_range P T _ g.second_in) g.gave in
            let rest : t - bit_and t m ≡ place_of P l - bit_and (place_of P l) (removed_bits P r) = ap₂ (λ (a b : ℕ). a - bit_and a b) (sym place_there) removed_is in
            let s = joined_second K (t - bit_and t m) (place_of P n) (place_is ∙ joined ∙ ap (λ (a : ℕ). bit_or a (place_of P n)) (sym rest)) in
            let e : f.second ≡ z * w + place_of P n = cell_there f.second z (second_point_lem k (y * w + t) r _ _ u g.fire ∙ sym q) ∙ ap (λ (a : ℕ). z * a + place_of P n) (sym width_is) in
            record { index = bit_and (place_of P n) (t - bit_and t m); within = s.0; holds = subst (SecondAt P T k r (y * w + t)) (e ∙ ap (λ (a : ℕ). z * w + a) (sym s.1) ∙ sym (add_assoc (z * w) _ _)) g }

    pub no_point : WellFormed P → P.points ≤ k.point → (g : Ground) → Grounds P T k g → ⊥
    no_point wf h g s =
        let i : InRange P (result P g.by (line_at P T g.first) (line_at P T g.second)) = result_range P wf g.by s.row _ _ (at_range P T g.first s.first_in) (at_range P T g.second s.second_in) in
        omega (arith, i.point_in, ap (λ (z : Line). z.point) s.gave)
