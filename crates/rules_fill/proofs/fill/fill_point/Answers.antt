-- The copy, then the rows of each kind, each lent the part as the call before it left it.
use mathlib.Core.Path.{refl, ap, ◌∙◌}
use mathlib.Core.List.{List}
use Prim.Native.Nat.{ℕ, ◌+◌, ◌*◌, ◌≤◌}
use native.Mathlib.Omega.{arith}
use lib.ListN.{length, length-drop}
use Rattle.plan.specs.Layout.{plan_of}
use Rattle.plan.specs.Horizons.{plan_with}
use Rattle.plan.proofs.Ranges.{accepted_bounded}
use Rattle.plan.proofs.Horizons.{with_well_formed}
use Rattle.rules_fill.proofs.ShapeLaws.{row_in}
use Rattle.rules_fill.proofs.ShapeWhole.{fill_by}
use Rattle.rules_fill.specs.Parts.{laid_over}
use Rattle.rules_fill.specs.Shapes.{own_literal_in, literal_in, fill_own_literal, fill_proposition, fill_propositions}
use Rattle.rules_fill.proofs.Laying.{lent_part}
use Rattle.rules_fill.proofs.Lending.{lent_on}
use Rattle.rules_fill.proofs.fill.fill_point.Goals as goal

-- the point's cells lie within the first table
inside : (c : goal.After-label_mask-mask) → c.args.x * c.width-width.result + c.width-width.result ≤ length c.args.first.now
inside c =
    row_in (plan_of c.args.plan.now) c.args.x _ _ _ c.requires.point_in c.requires.lent.long_first c.width-width.ensures.0 refl

pub width-width-requires : goal.width-width-requires
width-width-requires c = let d = accepted_bounded c.args.plan.now c.requires.lent.accepted in (d.links_in, d.propositions_in)

pub overflow_mul-start : goal.overflow_mul-start
overflow_mul-start c = omega (arith, inside c)

pub offset_bounds-first-start : goal.offset_bounds-first-start
offset_bounds-first-start c = omega (arith, inside c)

pub slice_bounds-copy_cells-count : goal.slice_bounds-copy_cells-count
slice_bounds-copy_cells-count c = omega (arith, inside c)

pub slice_bounds-copy_cells-start : goal.slice_bounds-copy_cells-start
slice_bounds-copy_cells-start c = omega (arith, inside c)

pub copy_cells-requires : goal.copy_cells-requires
copy_cells-requires c =
    let here : c.args.x * c.width-width.result + c.width-width.result ≤ length c.args.first.now =
    row_in (plan_of c.args.plan.now) c.args.x _ _ _ c.requires.point_in c.requires.lent.long_first c.width-width.ensures.0 refl in
    (simp (lent_part, length-drop) (omega (arith, here)), rw c.width-width.ensures.0 c.requires.lent.long_part)

pub fill_edges-requires : goal.fill_edges-requires
fill_edges-requires c = record { lent = lent_on _ _ _ _ c.requires.lent c.copy_cells.ensures.same_length; numbers = record { width_is = c.width-width.ensures.0; mask_is = c.label_mask-mask.ensures.0 }; marked = c.requires.marked }

pub horizon_at-requires : goal.horizon_at-requires
horizon_at-requires c = record { lent = lent_on _ _ _ _ c.requires.lent (c.fill_edges.ensures.same_length ∙ c.copy_cells.ensures.same_length); numbers = record { width_is = c.width-width.ensures.0; mask_is = c.label_mask-mask.ensures.0 }; marked = c.requires.marked }

pub fill_links-requires : goal.fill_links-requires
fill_links-requires c = record { rows_lent = record { lent = lent_on _ _ _ _ c.requires.lent (c.horizon_at.ensures.same_length ∙ c.fill_edges.ensures.same_length ∙ c.copy_cells.ensures.same_length); numbers = record { width_is = c.width-width.ensures.0; mask_is = c.label_mask-mask.ensures.0 }; marked = c.requires.marked }; x_bound = c.requires.point_in }

pub fill_propositions-requires : goal.fill_propositions-requires
fill_propositions-requires c = record { lent = lent_on _ _ _ _ c.requires.lent (c.fill_links.ensures.same_length ∙ c.horizon_at.ensures.same_length ∙ c.fill_edges.ensures.same_length ∙ c.copy_cells.ensures.same_length); width_is = c.width-width.ensures.0; point_in = c.requires.point_in }

pub returns : goal.returns
unfolding laid_over fill_propositions fill_proposition fill_own_literal own_literal_in literal_in
returns c = let bs = c.args.plan.now in
    let F = c.args.first.now in
    let w = c.width-width in
    let point = c.copy_cells.ensures.target_value ∙ ap (λ (l : List ℕ). laid_over w.result l c.args.part.now) (lent_part (c.args.x * w.result) F) in
    record { part_value = fill_by (plan_with bs c.args.horizon) (with_well_formed bs c.requires.lent.accepted c.args.horizon c.requires.horizon_far) (accepted_bounded bs c.requires.lent.accepted).propositions_in F c.requires.lent.long_first c.args.x c.requires.point_in _ _ _ _ _ _ _ w.ensures.0 point c.fill_edges.ensures.part_value c.horizon_at.ensures.part_value c.fill_links.ensures.part_value c.fill_propositions.ensures.part_value; same_length = c.fill_propositions.ensures.same_length ∙ c.fill_links.ensures.same_length ∙ c.horizon_at.ensures.same_length ∙ c.fill_edges.ensures.same_length ∙ c.copy_cells.ensures.same_length }
