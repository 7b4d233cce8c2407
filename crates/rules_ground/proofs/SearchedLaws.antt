-- What a search is lent meets what its functions ask for: cells lie in the table, their lines are ones that a rule can be applied to, and parents lie where the search looks.
use mathlib.Core.Path.{◌≡◌, refl, sym, subst, ◌∙◌}
use mathlib.Core.Bool.{true}
use mathlib.Core.List.{List}
use Prim.Native.Nat.{ℕ, suc, ◌+◌, ◌-◌, ◌*◌, ◌%◌, ◌^◌, ◌≤◌, ◌<◌}
use native.Mathlib.Nat.{mul-le-mul_right, suc-mul, mod-lt, pow-suc, pow-le-pow_right}
use native.Mathlib.Omega.{arith}
use lib.Bits.{bit_and, bit_or, and_le_l, and_le_r}
use lib.ListN.{length}
use lib.Pow.{pow_pos}
use Rattle.plan.specs.Plan.{Plan, width, cells}
use Rattle.plan.specs.Layout.{plan_of}
use Rattle.plan.specs.Refusal.{Accepted}
use Rattle.plan.proofs.LabelLaws.{four_pos}
use Rattle.plan.proofs.Ranges.{accepted_well_formed, accepted_bounded, sizes_few}
use Rattle.plan.proofs.Widths.{shift, width_small}
use Rattle.rules.specs.declared.Line.{Line}
use Rattle.rules.specs.declared.Rule.{Rule}
use Rattle.rules.specs.declared.Rule.TheVariants.{Propagation, LowerCase, UpperCase, LetterRemoval, OwnLiteral, LiteralRemoval}
use Rattle.rules_apply.specs.Applicable.{InLabels}
use Rattle.rules.specs.Rules.{uses_second}
use Rattle.rules.specs.Derivations.{InPlan}
use Rattle.rules.proofs.Cells.{digit_lt, at_range}
use Rattle.rules_fill.specs.Parents.{given_point, first_point}
use Rattle.rules_fill.specs.Shapes.{digit_mask}
use Rattle.rules_fill.proofs.PointLaws.{first_in, second_in}
use Rattle.rules_fill.proofs.ShapeLaws.{width_pow, width_pos as width_above, or_in, label_in, link_in_lem}
use Rattle.rules_ground.specs.declared.Row.{Row}
use Rattle.rules_ground.specs.declared.Frame.{Frame}
use Rattle.rules_ground.specs.declared.search.Search.{Search}
use Rattle.rules_ground.specs.Frames.{Framed, LineRead}
use Rattle.rules_ground.specs.Places.{Within, SomeWithin, Masked}
use Rattle.rules_ground.specs.Rows.{cut_place, removed_bits}
use Rattle.rules_ground.specs.Searching.{the_plan, RowSearched, SecondAt, FirstAt, ByRule}
use Rattle.rules_ground.proofs.LineLaws.{cut_is}
use Rattle.rules_ground.proofs.ParentLaws.{first_there, not_removed, second_there}

-- ---- the shifts and masks of an accepted plan
cut_in : (P : Plan) (l : Line) → cut_place P l < width P
cut_in P l = digit_lt _ _ _ _ (mod-lt _ (pow_pos P.links)) (mod-lt _ (four_pos P.propositions))

module _ (bs : List ℕ) (accepted : Accepted bs) where
  pub sets_pos : (k : ℕ) → k ≡ (plan_of bs).links → 1 ≤ 1 * 2 ^ k % 18446744073709551616
  sets_pos k e = rw (shift k (plan_of bs).links (omega (arith, (sizes_few bs accepted).0)) e) (pow_pos (plan_of bs).links)

  pub labels_pos : (q : ℕ) → q ≡ 4 ^ (plan_of bs).propositions → 1 ≤ q
  labels_pos q e = rw e (four_pos (plan_of bs).propositions)

  pub frame : (k p q : ℕ) → k ≡ (plan_of bs).links → p ≡ (plan_of bs).propositions → q ≡ 4 ^ (plan_of bs).propositions
      → Framed (plan_of bs) (record { links = k; bits = 2 * p; sets = 1 * 2 ^ k % 18446744073709551616 - 1; labels = q - 1 })
  frame k p q a b d = record { links_is = a; bits_is = omega arith; sets_is = rw (shift k (plan_of bs).links (omega (arith, (sizes_few bs accepted).0)) a); labels_is = rw d; links_small = omega (arith, (sizes_few bs accepted).0); bits_small = omega (arith, (sizes_few bs accepted).1) }

  -- the place of a line cut by the masks is small
  pub cut_small : (f : Frame) (l : Line) (q : ℕ) → Framed (plan_of bs) f → q ≡ 4 ^ (plan_of bs).propositions → bit_and l.set f.sets * q + bit_and l.label f.labels ≤ 4096
  cut_small f l q framed e = omega (arith, cut_is (plan_of bs) f l q framed e, cut_in (plan_of bs) l, width_small _ _ (sizes_few bs accepted).0 (sizes_few bs accepted).1)

-- ---- rows
-- rules 4 to 6 give a line of their first parent's point
same_first : (P : Plan) (r : Rule) (y x : ℕ) → given_point P r y ≡ x → first_point P r y ≡ first_point P r x
same_first P (Propagation e) y x q = refl
same_first P (LowerCase i) y x q = refl
same_first P (UpperCase i) y x q = refl
same_first P (LetterRemoval i) y x q = q
same_first P (OwnLiteral j) y x q = q
same_first P (LiteralRemoval j) y x q = q

digit_in : (P : Plan) (j : ℕ) → j < P.propositions → digit_mask j < width P
unfolding digit_mask
digit_in P j h =
    let a : 4 ^ suc j ≤ 4 ^ P.propositions = pow-le-pow_right {n = 4} (omega arith) h in
    label_in P (3 * 4 ^ j) (omega (arith, pow-suc 4 j, four_pos j))

removed_in : (P : Plan) (r : Rule) → InPlan P r → removed_bits P r < width P
removed_in P (Propagation e) h = width_above P
removed_in P (LowerCase i) h = width_above P
removed_in P (UpperCase i) h = width_above P
removed_in P (LetterRemoval i) h = link_in_lem P i h
removed_in P (OwnLiteral j) h = digit_in P j h
removed_in P (LiteralRemoval j) h = digit_in P j h

-- ---- a search
module _ (s : Search) where
  pub cell_in : (c : ℕ) → c < cells (the_plan s) → c < length s.table.now
  cell_in c h = omega (arith, s.long)

  pub width_pos : 0 < s.width
  width_pos = rw s.width_is (width_above (the_plan s))

  -- what reading a cell's line asks for
  pub cell_read : (c : ℕ) → c < cells (the_plan s) → (c < length s.table.now) × (s.frame.bits < 64) × (s.frame.links < 64)
  cell_read c h = (cell_in c h, s.framed.bits_small, s.framed.links_small)

  pub in_labels : (l : Line) (c : ℕ) → c < cells (the_plan s) → LineRead s.table.now s.frame c l → InLabels (the_plan s) l
  in_labels l c h e = record {
    label_in = subst (λ (z : Line). z.label < 4 ^ (the_plan s).propositions) (sym (e.is_line (the_plan s) s.framed)) (at_range (the_plan s) s.table.now c h).label_in;
    wait_in = omega (arith, (e.fits s.plan.now s.accepted s.framed h).wait_fits);
  }

  -- the cells of a point of the plan
  point_fits : (x : ℕ) → x < (the_plan s).points → (x * s.width + s.width ≤ cells (the_plan s)) × (cells (the_plan s) ≤ 16384)
  point_fits x h = (rw s.width_is (rw suc-mul at (mul-le-mul_right (width (the_plan s)) h)), (accepted_bounded s.plan.now s.accepted).cells_in)

  place_in : s.place < s.width
  place_in = rw (s.place_is, s.width_is) (cut_in (the_plan s) s.line)

  masked : (mask : ℕ) → mask < s.width → Masked mask s.width
  masked mask h = record { bits = (the_plan s).links + 2 * (the_plan s).propositions; end_is = s.width_is ∙ sym (width_pow (the_plan s)); small = rw s.width_is (width_small _ _ (sizes_few s.plan.now s.accepted).0 (sizes_few s.plan.now s.accepted).1); mask_in = h }

  -- a cell by its number from cell lo on
  pub cell_from : (lo mask v : ℕ) → lo + mask < cells (the_plan s) → Within mask v → (lo + v < cells (the_plan s)) × (cells (the_plan s) ≤ 16384)
  cell_from lo mask v h w = (omega (arith, and_le_r v mask), (accepted_bounded s.plan.now s.accepted).cells_in)

-- ---- a search by a rule whose row is known
module _ (s : Search) (r : Rule) (row : Row) (given : RowSearched s r row) where
  -- the first parent's point, for the line's point
  first_is : row.first ≡ first_point (the_plan s) r s.line.point
  first_is = given.row_is.first_is ∙ same_first (the_plan s) r _ _ given.given_is

  first_fits : (row.first * s.width + s.width ≤ cells (the_plan s)) × (cells (the_plan s) ≤ 16384)
  first_fits =
      point_fits s _ (rw first_is (first_in (the_plan s) (accepted_well_formed s.plan.now s.accepted) s.table.now s.long s.line.point s.point_in r given.in_plan))

  second_fits : (row.second * s.width + s.width ≤ cells (the_plan s)) × (cells (the_plan s) ≤ 16384)
  second_fits =
      point_fits s _ (rw given.row_is.second_is (second_in (the_plan s) (accepted_well_formed s.plan.now s.accepted) s.table.now s.long s.line.point s.point_in r given.in_plan))

  -- the cell at place t of the first parent's point
  pub first_cell : (t : ℕ) → t < s.width → (row.first * s.width + t < cells (the_plan s)) × (cells (the_plan s) ≤ 16384)
  first_cell t h = (omega (arith, first_fits.0), first_fits.1)

  -- the mask of the first parent's place
  pub first_masked : Masked (bit_or s.place row.removed) s.width
  first_masked =
      let h : row.removed < width (the_plan s) = rw given.row_is.removed_is (removed_in (the_plan s) r given.in_plan) in
      masked s _ (rw s.width_is (or_in (the_plan s) s.place row.removed (rw s.width_is at (place_in s)) h))

  -- the second parent's place: the line's bits outside the first parent's rest, and some of those within
  module _ (rest : ℕ) where
    pub second_masked : Masked (bit_and s.place rest) s.width
    second_masked = masked s _ (omega (arith, and_le_l s.place rest, place_in s))

    pub second_inside : (row.second * s.width + (s.place - bit_and s.place rest) + bit_and s.place rest < cells (the_plan s)) × (cells (the_plan s) ≤ 16384)
    second_inside = (omega (arith, and_le_l s.place rest, place_in s, second_fits.0), second_fits.1)

  -- where the parents lie
  pub first_in_row : ByRule r (the_plan s) s.table.now s.line → SomeWithin (λ t. FirstAt (the_plan s) s.table.now s.line r (row.first * s.width + t)) (bit_or s.place row.removed)
  first_in_row = first_there (the_plan s) s.table.now s.line (accepted_well_formed s.plan.now s.accepted) r given.in_plan _ _ _ _ first_is s.width_is s.place_is given.row_is.removed_is

  module _ (takes : uses_second r ≡ true) (t : ℕ) where
    pub removed_in_row : bit_and t row.removed ≡ 0 → FirstAt (the_plan s) s.table.now s.line r (row.first * s.width + t) → ⊥
    removed_in_row z f = not_removed (the_plan s) s.table.now s.line (accepted_well_formed s.plan.now s.accepted) r given.in_plan _ _ _ _ first_is s.width_is s.place_is given.row_is.removed_is t f takes z

    pub second_in_row : FirstAt (the_plan s) s.table.now s.line r (row.first * s.width + t)
        → SomeWithin (λ v. SecondAt (the_plan s) s.table.now s.line r (row.first * s.width + t) (row.second * s.width + (s.place - bit_and s.place (t - bit_and t row.removed)) + v)) (bit_and s.place (t - bit_and t row.removed))
    second_in_row f = second_there (the_plan s) s.table.now s.line (accepted_well_formed s.plan.now s.accepted) r given.in_plan _ _ _ _ first_is s.width_is s.place_is given.row_is.removed_is t f row.second takes given.row_is.second_is
