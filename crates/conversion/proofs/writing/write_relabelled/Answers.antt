-- The bytes before the labels are copied, then the labels are 0, and then the rows are copied.
use mathlib.Core.Path.{◌≡◌, sym, ap, ◌∙◌}
use Prim.Native.Nat.{◌+◌, ◌≤◌}
use native.Mathlib.Omega.{arith}
use lib.ListN.{length, take, drop, replicate, length-append, length-drop, length-replicate}
use lib.Seq.{length-take-le}
use Rattle.std.proofs.Common.{rules}
use Rattle.std.proofs.lemmas.Slice.{overwrites}
use Rattle.plan.specs.Layout.{labels_at, label_bytes}
use Rattle.plan.proofs.Forms.{reaches, accepted_length}
use Rattle.conversion.proofs.Written.{three_parts}
use Rattle.conversion.proofs.writing.write_relabelled.Goals as goal
use Rattle.conversion.proofs.writing.write_relabelled.Goals.{After-length_for}

-- the labels stand before the plan's end, and after them are as many bytes as there are in the form without labels
fits : (c : After-length_for) → let bs = c.args.plan.now in (c.labels_at-start.result ≤ c.length_for.result) × (length bs ≡ c.length_for.result + label_bytes bs)
fits c = let bs = c.args.plan.now in
    let a = c.requires.accepted.0 in
    (omega (arith, reaches bs a, accepted_length bs a), omega (arith, accepted_length bs a))

pub slice_bounds-copy_elements-end : goal.slice_bounds-copy_elements-end
slice_bounds-copy_elements-end c = omega (arith, fits (goal.at.slice_bounds-copy_elements-end c).After-length_for)

pub slice_bounds-copy_elements-end-2 : goal.slice_bounds-copy_elements-end-2
slice_bounds-copy_elements-end-2 c = sym (length-take-le _ _ (omega (arith, fits (goal.at.slice_bounds-copy_elements-end-2 c).After-length_for)))

pub slice_bounds-copy_elements-end-3 : goal.slice_bounds-copy_elements-end-3
slice_bounds-copy_elements-end-3 c = sym (length-take-le _ _ (omega (arith, fits (goal.at.slice_bounds-copy_elements-end-3 c).After-length_for)))

pub copy_elements-requires : goal.copy_elements-requires
copy_elements-requires c =
    let f = fits (goal.at.copy_elements-requires c).After-length_for in
    length-take-le _ _ (omega (arith, f)) ∙ sym (length-take-le _ _ (omega (arith, f)))

pub slice_bounds-fill-end : goal.slice_bounds-fill-end
slice_bounds-fill-end c =
    let f = fits (goal.at.slice_bounds-fill-end c).After-length_for in
    let l = ap length c.copy_elements.ensures in
    search (rules, overwrites)

pub slice_bounds-copy_elements-count : goal.slice_bounds-copy_elements-count
slice_bounds-copy_elements-count c = omega (arith, fits (goal.at.slice_bounds-copy_elements-count c).After-length_for)

pub slice_bounds-copy_elements-start : goal.slice_bounds-copy_elements-start
slice_bounds-copy_elements-start c = omega (arith, fits (goal.at.slice_bounds-copy_elements-start c).After-length_for)

pub slice_bounds-copy_elements-count-2 : goal.slice_bounds-copy_elements-count-2
slice_bounds-copy_elements-count-2 c = omega (arith, fits (goal.at.slice_bounds-copy_elements-count-2 c).After-length_for)

pub slice_bounds-copy_elements-start-2 : goal.slice_bounds-copy_elements-start-2
slice_bounds-copy_elements-start-2 c = omega (arith, fits (goal.at.slice_bounds-copy_elements-start-2 c).After-length_for)

pub copy_elements-requires-2 : goal.copy_elements-requires-2
copy_elements-requires-2 c =
    let f = fits (goal.at.copy_elements-requires-2 c).After-length_for in
    search (rules, overwrites)

pub returns-clause-out_value : goal.returns-clause-out_value
returns-clause-out_value c = let bs = c.args.plan.now in
    let O = c.args.out.now in
    let f = fits (goal.at.returns-clause-out_value c).After-length_for in
    let x : c.copy_elements.new.target ≡ take (labels_at bs) bs = search rules in
    let l = ap length c.copy_elements.ensures ∙ length-take-le _ _ (omega (arith, f)) in
    let y : c.fill.new.self ≡ replicate c.args.labels 0 = c.fill.ensures.after (λ y e. e) ∙ ap (λ n. replicate n 0) (length-take-le _ _ (rw (length-drop, length-append, length-drop) (omega (arith, f, l))) ∙ omega arith) in
    let z : c.copy_elements-2.new.target ≡ drop (labels_at bs + label_bytes bs) bs = search (rules, overwrites) in
    rw (x, y, z, c.labels_at-start.ensures.0) (three_parts (take (labels_at bs) bs) (replicate c.args.labels 0) (drop (labels_at bs + label_bytes bs) bs) O (labels_at bs) c.args.labels c.length_for.result (length-take-le _ _ (omega (arith, f))) (length-replicate _ _) (omega (arith, f)) (omega (arith, f)))
