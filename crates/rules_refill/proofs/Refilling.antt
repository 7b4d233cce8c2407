-- What a fill from raised cells is lent has what each of its calls asks for.
use mathlib.Core.Path.{◌≡◌, refl, ap, ◌∙◌}
use mathlib.Core.List.{List}
use Prim.Native.Nat.{ℕ, ◌≤◌, ◌<◌}
use native.Mathlib.Omega.{arith}
use lib.Bits.{or_zero_l}
use Rattle.rules_rows.specs.declared.rows.Rows.{Rows}
use Rattle.plan.specs.Plan.{Plan, width}
use Rattle.plan.specs.Layout.{plan_of}
use Rattle.plan.specs.Horizons.{plan_with}
use Rattle.plan.proofs.Ranges.{WellFormed, accepted_bounded}
use Rattle.plan.proofs.Horizons.{with_well_formed}
use Rattle.rules.specs.declared.Edge.{Edge}
use Rattle.rules.specs.declared.Constraint.{Constraint}
use Rattle.rules.specs.declared.Rule.TheVariants.{Propagation, LetterRemoval, OwnLiteral, LiteralRemoval}
use Rattle.rules.specs.Rules.{constraint_of}
use Rattle.rules.specs.Derivations.{InPlan}
use Rattle.rules_fill.specs.declared.shapes.Propagator.{Propagator}
use Rattle.rules_fill.specs.declared.shapes.Remover.{Remover}
use Rattle.rules_fill.specs.Shapes.{digit_mask, propagate_in, remove_in, clear_in, edge_in_step, lower_in, upper_in, letter_in, own_literal_in, literal_in}
use Rattle.rules_fill.specs.Cells.{Run}
use Rattle.rules_fill.specs.Rows.{EdgeRow, LowerRow, UpperRow, LetterRow, LiteralRow}
use Rattle.rules_fill.proofs.ShapeGives.{letter_gives, own_gives, literal_gives}
use Rattle.rules_fill.proofs.ShapeLaws.{width_pos, propagate_by, remove_by, clear_by}
use Rattle.rules_fill.proofs.Lending.{propagate_lent}
use Rattle.rules_listed.specs.declared.part.Part.{Part}
use Rattle.rules_listed.specs.Listed.{PropagateLent, ClearLent, PairsRest}
use Rattle.rules_listed.specs.Rests.{RemoveRest}
use Rattle.rules_listed.proofs.Owning.{noted_of}
use Rattle.rules_dense.specs.Lent.{HalvesLent}
use Rattle.rules_refill.specs.declared.refill.Refill.{Refill}
use Rattle.rules_refill.specs.Lent.{RefillLent, RowOf}
use Rattle.rules_refill.specs.Refills.{whole, PartIn, RowIn}
use Rattle.rules_refill.proofs.Refills.{lent_of}
use Rattle.rules_refill.proofs.TableOf as table
use Rattle.rules_fill.proofs.Runs.{link_run, digit_run}
use Rattle.rules_refill.proofs.Covering.{one_covered, two_covered, edge_row_of, lower_row_of, upper_row_of, propagate_rest, clear_rest, remove_rest}

-- a row of an edge that two plans have in common
edge_again : {P Q : Plan} {e : Edge} {by : Propagator} → EdgeRow P e by → constraint_of P e ≡ constraint_of Q e → EdgeRow Q e by
edge_again k same =
    record {
      from_is = k.from_is ∙ ap (λ (c : Constraint). c.to) same;
      avoid_is = k.avoid_is;
      add_is = k.add_is ∙ ap (λ (c : Constraint). c.label) same;
      up_is = k.up_is ∙ ap (λ (c : Constraint). c.up) same;
      down_is = k.down_is ∙ ap (λ (c : Constraint). c.down) same;
      down_small = k.down_small;
    }

module _ {bs M : List ℕ} {horizon : ℕ} {F L counts : List ℕ} {rows : Rows} {w mask x : ℕ} (lent : RefillLent bs M horizon F L counts rows w mask x) where
  pub lent_well_formed : WellFormed (plan_with bs horizon)
  lent_well_formed = with_well_formed bs lent.accepted horizon lent.horizon_far

  -- how few propositions there are
  pub propositions_few : (j : ℕ) → j < (plan_of bs).propositions → j < 4
  propositions_few j h = omega (arith, (accepted_bounded bs lent.accepted).propositions_in)

  few : (plan_of bs).propositions ≤ 4
  few = (accepted_bounded bs lent.accepted).propositions_in

  -- ---- the rows of point x, read from the plan with its own horizon, are those of the plan with any
  pub edge_of : (e : Edge) {Q : Plan} (by : Propagator) → EdgeRow Q e by → constraint_of Q e ≡ constraint_of (plan_with bs horizon) e → InPlan (plan_with bs horizon) (Propagation e) → (constraint_of (plan_with bs horizon) e).from ≡ x → RowOf (plan_with bs horizon) F L counts mask x by
  edge_of e by k same row mine = edge_row_of (plan_with bs horizon) F L counts x mask lent.numbers.mask_is lent_well_formed few lent.point_in lent.lists_are.covered e row mine by (edge_again k same)

  pub lower_of : (i : ℕ) (by : Propagator) → LowerRow (plan_of bs) i by → i < (plan_of bs).links → (plan_of bs).activation i ≡ x → RowOf (plan_with bs horizon) F L counts mask x by
  lower_of i by k row mine = lower_row_of (plan_with bs horizon) F L counts x mask lent.numbers.mask_is lent_well_formed few lent.point_in lent.lists_are.covered i row mine by record { from_is = k.from_is; avoid_is = k.avoid_is; add_is = k.add_is; up_is = k.up_is; down_is = k.down_is }

  pub upper_of : (i : ℕ) (by : Propagator) → UpperRow (plan_of bs) i by → i < (plan_of bs).links → (plan_of bs).finish i ≡ x → RowOf (plan_with bs horizon) F L counts mask x by
  upper_of i by k row mine = upper_row_of (plan_with bs horizon) F L counts x mask lent.numbers.mask_is lent_well_formed few lent.point_in lent.lists_are.covered i row mine by record { from_is = k.from_is; avoid_is = k.avoid_is; add_is = k.add_is; up_is = k.up_is; down_is = k.down_is; down_small = k.down_small }

  -- and what the loops over their cells make
  module _ (B D : List ℕ) where
    pub edge_made : (e : Edge) {Q : Plan} (by : Propagator) → EdgeRow Q e by → constraint_of Q e ≡ constraint_of (plan_with bs horizon) e → D ≡ propagate_in w F mask by.from by.avoid by.add by.up by.down B → D ≡ edge_in_step (plan_with bs horizon) F e B
    unfolding edge_in_step
    edge_made e {Q = Q} by k same =
        let r = edge_again {Q = plan_with bs horizon} k same in
        propagate_by F B D _ _ _ _ _ _ _ _ _ _ _ _ _ _ lent.numbers.width_is lent.numbers.mask_is r.from_is r.avoid_is r.add_is r.up_is r.down_is

    pub lower_made : (i : ℕ) (by : Propagator) → LowerRow (plan_of bs) i by → D ≡ propagate_in w F mask by.from by.avoid by.add by.up by.down B → D ≡ lower_in (plan_with bs horizon) F i B
    unfolding lower_in
    lower_made i by r = propagate_by F B D _ _ _ _ _ _ _ _ _ _ _ _ _ _ lent.numbers.width_is lent.numbers.mask_is r.from_is r.avoid_is r.add_is r.up_is r.down_is

    pub upper_made : (i : ℕ) (by : Propagator) → UpperRow (plan_of bs) i by → D ≡ propagate_in w F mask by.from by.avoid by.add by.up by.down B → D ≡ upper_in (plan_with bs horizon) F i B
    unfolding upper_in
    upper_made i by r = propagate_by F B D _ _ _ _ _ _ _ _ _ _ _ _ _ _ lent.numbers.width_is lent.numbers.mask_is r.from_is r.avoid_is r.add_is r.up_is r.down_is

    pub letter_made : (i : ℕ) (by : Remover) → LetterRow (plan_of bs) i by → D ≡ remove_in w F by.other by.mask by.add x B → D ≡ letter_in (plan_with bs horizon) F x i B
    unfolding letter_in
    letter_made i by r = remove_by F B D _ _ _ _ _ _ _ _ x lent.numbers.width_is r.other_is r.mask_is r.add_is

    pub literal_made : (j : ℕ) (by : Remover) → LiteralRow (plan_of bs) j by → D ≡ remove_in w F by.other by.mask by.add x B → D ≡ literal_in (plan_with bs horizon) F x j B
    unfolding literal_in
    literal_made j by r = remove_by F B D _ _ _ _ _ _ _ _ x lent.numbers.width_is r.other_is r.mask_is r.add_is

    pub own_made : (j m : ℕ) → m ≡ digit_mask j → D ≡ clear_in w F m x B → D ≡ own_literal_in (plan_with bs horizon) F x j B
    unfolding own_literal_in
    own_made j m e = clear_by F B D _ _ _ _ x lent.numbers.width_is e

-- what the removal of a row asks for
abbrev pub RemovalLent : Refill → Part → Remover → Type 0
RemovalLent r p by = HalvesLent r.table by p × (Run by.low by.mask r.table.width × PairsRest r.table by p)

-- ---- what the loops ask for
module _ (r : Refill) {p : Part} (of : PartIn r p) where
  abbrev P : Plan
  P = whole r

  pub propagate_lends : (by : Propagator) → RowIn r p.point by → PropagateLent r.table r.marks.now r.mask by p
  propagate_lends by k =
      let lent = lent_of r of in
      let n = noted_of of.part_of in
      let add_in : by.add < width P = rw (or_zero_l by.add) at (k.joins 0 (width_pos P)) in
      let l = propagate_lent r.plan.now r.marks.now r.table.first.now p.cells.now r.table.width r.mask by.from by.add by record { lent = record { accepted = lent.accepted; bound = lent.bound; long_first = lent.long_first; long_part = rw lent.numbers.width_is at n.part_long }; numbers = lent.numbers; marked = lent.marked } k.down_small refl k.from_in refl add_in in
      record {
        marked = lent.marked;
        mask_small = l.mask_small;
        down_small = k.down_small;
        bound = lent.bound;
        from_in = table.cells_row r by.from k.from_in;
        raised = (table.point_rows r by.from k.from_in).raised;
        joins = l.joins;
        part_of = of.part_of;
        rest = propagate_rest P r.table.first.now r.table.lists.now r.table.counts.now p.point r.table.width lent.numbers.width_is p.cells.now n.no_lower _ r.mask by refl k;
      }

  remove_lends : (o : ℕ) (by : Remover) → by.other ≡ o → o < (plan_of r.plan.now).points → by.add < 65536 → HalvesLent r.table by p
  remove_lends o by e h small = record { by_pairs = record { other_in = rw e (table.cells_row r o h); joins = table.joins r; add_small = small; part_of = of.part_of }; bound = r.lent.bound }

  pairs_rest : (o : ℕ) (by : Remover) → by.other ≡ o → o < (plan_of r.plan.now).points → RemoveRest r.table.width r.table.first.now r.table.lists.now r.table.counts.now p.point by p.cells.now → PairsRest r.table by p
  pairs_rest o by e h rest = record { own = table.point_rows r p.point (lent_of r of).point_in; other = rw e (table.point_rows r o h); rest = rest }

  pub letter_lends : (i : ℕ) → i < (plan_of r.plan.now).links → (by : Remover) → LetterRow (plan_of r.plan.now) i by → RemovalLent r p by
  letter_lends i h by k =
      let lent = lent_of r of in
      let t = r.table in
      let o = (lent_well_formed lent).activation_in i h in (
        remove_lends _ by k.other_is o k.add_small,
        (
          rw (k.low_is, k.mask_is, lent.numbers.width_is) (link_run P i h),
          pairs_rest _ by k.other_is o (remove_rest P t.first.now t.lists.now t.counts.now p.point t.width lent.numbers.width_is p.cells.now (noted_of of.part_of).no_lower lent.point_in lent.lists_are _ _ _ by k.other_is k.mask_is k.add_is o (λ t' u a b. two_covered P t.first.now t.lists.now t.counts.now p.point lent.point_in lent.lists_are (LetterRemoval i) h lent.point_in o a b (letter_gives P t.first.now p.point i t' u))),
        ),
      )

  pub literal_lends : (j : ℕ) → j < (plan_of r.plan.now).propositions → (by : Remover) → LiteralRow (plan_of r.plan.now) j by → RemovalLent r p by
  literal_lends j h by k =
      let lent = lent_of r of in
      let t = r.table in
      let o = ((lent_well_formed lent).observer_in j h).1 in (
        remove_lends _ by k.other_is o (omega (arith, k.add_is)),
        (
          rw (k.low_is, k.mask_is, lent.numbers.width_is) (digit_run P j h),
          pairs_rest _ by k.other_is o (remove_rest P t.first.now t.lists.now t.counts.now p.point t.width lent.numbers.width_is p.cells.now (noted_of of.part_of).no_lower lent.point_in lent.lists_are _ _ _ by k.other_is k.mask_is k.add_is o (λ t' u a b. two_covered P t.first.now t.lists.now t.counts.now p.point lent.point_in lent.lists_are (LiteralRemoval j) h lent.point_in o a b (literal_gives P t.first.now p.point j h t' u))),
        ),
      )

  pub clear_lends : (j : ℕ) → j < (plan_of r.plan.now).propositions → (plan_of r.plan.now).observer j ≡ p.point → (m : ℕ) → m ≡ digit_mask j → ClearLent r.table m p
  clear_lends j h mine m g =
      let lent = lent_of r of in
      let t = r.table in
      record {
        part_of = of.part_of;
        raised = (table.point_rows r p.point lent.point_in).raised;
        rest = rw g (clear_rest P t.first.now t.lists.now t.counts.now p.point t.width lent.numbers.width_is p.cells.now (noted_of of.part_of).no_lower _ (digit_mask j) refl (λ t' k. one_covered P t.first.now t.lists.now t.counts.now p.point lent.point_in lent.lists_are.covered (OwnLiteral j) h (λ z. z) k (own_gives P t.first.now p.point j h mine t')));
      }
