-- Part after part is the next of the plan's bytes with these rows.
use mathlib.Core.Path.{◌≡◌, refl, sym, ap, ◌∙◌}
use Prim.Native.Nat.{◌+◌, ◌*◌, ◌≤◌, ◌<◌, ◌-◌}
use native.Mathlib.Nat.{add-zero}
use native.Mathlib.Omega.{arith}
use lib.ListN.{length, length-set}
use borrow.Author.Rules.{rules}
use Rattle.plan.specs.Bytes.{byte_at}
use Rattle.plan.specs.Layout.{labels_at, label_bytes, plan_of}
use Rattle.plan_rows.specs.RowBytes.{row_bytes_to}
use Rattle.plan_rows.proofs.Begun.{Begun}
use Rattle.plan_rows.proofs.RowPlaces.{ends, link_data, edge_data, counted, count_few, row_few, links_in, end_in, data_in, byte_count, byte_first, byte_link_end, byte_end, byte_link, byte_data}
use Rattle.plan_rows.proofs.Written.{written_none, written_byte, written_part, written_all}
use Rattle.plan_rows.proofs.writing.write_rows.Goals as goal
use Rattle.plan_rows.proofs.writing.write_rows.Goals.{After-links-links, After-put_part, After-put_part-2, After-put_part-3, After-put_part-4}

-- what the code's numbers are, and how many bytes there are
known : (c : After-links-links) → let bs = c.args.plan.now in let rows = c.args.rows.now in
    (c.labels_at-labels.result ≡ labels_at bs) × (c.links-links.result ≡ byte_at bs 2) × (length bs ≡ labels_at bs + label_bytes bs + 6 * (byte_at bs 2 + byte_at bs 3)) × (length rows ≤ byte_at bs 3) × (edge_data bs rows + 4 * length rows ≤ length c.args.out.now) × (length rows < 256)
unfolding plan_of
known c =
    let a = c.requires.accepted in
    let k = counted c.args.plan.now c.args.rows.now a in
    (c.labels_at-labels.ensures.0, c.links-links.ensures.0, k.0, k.1, omega (arith, k.2, c.requires.rows_in_bounds), count_few c.args.plan.now c.args.rows.now a)

pub put_part-requires : goal.put_part-requires
put_part-requires c = let k = known (goal.at.put_part-requires c).After-links-links in (omega (arith, k), omega (arith, k))

at_count : (c : After-put_part) → Begun (row_bytes_to c.args.plan.now c.args.rows.now 3) 3 c.args.out.now c.put_part.new.out
at_count c =
    let k = known (goal.at.After-put_part c).After-links-links in
    written_part _ _ (written_none _ _ _) 3 0 c.put_part.ensures refl refl (omega (arith, k)) (omega (arith, k)) (λ j h. sym (byte_first _ _ (0 + j) (λ e. omega arith) (omega arith)))

pub overflow_cast-out : goal.overflow_cast-out
overflow_cast-out c = let k = known (goal.at.overflow_cast-out c).After-links-links in search rules

pub bounds-out-3 : goal.bounds-out-3
bounds-out-3 c =
    let d = goal.at.bounds-out-3 c in
    let k = known d.After-links-links in
    let b = at_count d.After-put_part in
    omega (arith, k, b.length_is)

at_labels : (c : After-put_part-2) → Begun (row_bytes_to c.args.plan.now c.args.rows.now (labels_at c.args.plan.now)) (labels_at c.args.plan.now) c.args.out.now c.put_part-2.new.out
at_labels c =
    let d = goal.at.After-put_part-2 c in
    let k = known d.After-links-links in
    let b = written_byte _ _ (at_count d.After-put_part) (omega (arith, k)) (sym (byte_count _ _ 3 refl)) in
    written_part _ _ b (c.labels_at-labels.result - 4) 4 c.put_part-2.ensures refl (omega (arith, k)) (omega (arith, k)) (omega (arith, k)) (λ j h. sym (byte_first _ _ (4 + j) (λ e. omega arith) (omega (arith, k))))

pub put_part-requires-2 : goal.put_part-requires-2
put_part-requires-2 c =
    let d = goal.at.put_part-requires-2 c in
    let k = known d.After-links-links in
    let b = at_count d.After-put_part in
    (omega (arith, k), rw length-set (omega (arith, k, b.length_is)))

pub put_part-requires-3 : goal.put_part-requires-3
put_part-requires-3 c =
    let d = goal.at.put_part-requires-3 c in
    let k = known d.After-links-links in
    let b = at_labels d.After-put_part-2 in
    (omega (arith, k, c.label_bytes.ensures), omega (arith, k, b.length_is))

at_ends : (c : After-put_part-3) → Begun (row_bytes_to c.args.plan.now c.args.rows.now (ends c.args.plan.now c.args.rows.now)) (ends c.args.plan.now c.args.rows.now) c.args.out.now c.put_part-3.new.out
at_ends c =
    let d = goal.at.After-put_part-3 c in
    let k = known d.After-links-links in
    written_part _ _ (at_labels d.After-put_part-2) (2 * c.links-links.result) (c.labels_at-labels.result + c.label_bytes.result) c.put_part-3.ensures k.0 (omega (arith, k)) (omega (arith, k, c.label_bytes.ensures)) (omega (arith, k))
    (λ j h. ap (byte_at c.args.plan.now) (omega (arith, k, c.label_bytes.ensures)) ∙ sym (byte_link_end _ c.args.rows.now (labels_at c.args.plan.now + j) (omega arith) (omega (arith, k))))

pub loop-i-init : goal.loop-i-init
loop-i-init c = rw add-zero (at_ends (goal.at.loop-i-init c).After-put_part-3)

pub edge_row-requires : goal.edge_row-requires
edge_row-requires c = row_few _ _ c.requires.accepted _ (omega arith)

pub put_part-requires-in-loop-i : goal.put_part-requires-in-loop-i
put_part-requires-in-loop-i c =
    let k = known (goal.at.put_part-requires-in-loop-i c).After-links-links in
    (rw (c.ends_at-from.ensures.0, c.edge_row.ensures.0) (end_in _ _ c.requires.accepted c.loop-i.i (omega arith)), omega (arith, k, c.loop-i.invariant.length_is))

pub loop-i-preserved : goal.loop-i-preserved
loop-i-preserved c =
    let k = known (goal.at.loop-i-preserved c).After-links-links in
    let bs = c.args.plan.now in
    written_part _ _ c.loop-i.invariant 2 c.ends_at-from.result c.put_part-in-loop-i.ensures (omega (arith, k)) (omega arith) (rw (c.ends_at-from.ensures.0, c.edge_row.ensures.0) (end_in bs _ c.requires.accepted c.loop-i.i (omega arith))) (omega (arith, k))
    (λ j h. rw (c.ends_at-from.ensures.0, c.edge_row.ensures.0) (sym (byte_end bs c.args.rows.now (ends bs c.args.rows.now + 2 * c.loop-i.i + j) c.loop-i.i j (omega arith) h (omega arith))))

pub put_part-requires-4 : goal.put_part-requires-4
put_part-requires-4 c =
    let k = known (goal.at.put_part-requires-4 c).After-links-links in
    (rw (c.data_at.ensures.0, k.1) (links_in _ _ c.requires.accepted), omega (arith, k, c.loop-i.invariant.length_is))

at_edge_data : (c : After-put_part-4) → Begun (row_bytes_to c.args.plan.now c.args.rows.now (edge_data c.args.plan.now c.args.rows.now)) (edge_data c.args.plan.now c.args.rows.now) c.args.out.now c.put_part-4.new.out
at_edge_data c =
    let k = known (goal.at.After-put_part-4 c).After-links-links in
    let bs = c.args.plan.now in
    let e : c.loop-i.i ≡ length c.args.rows.now = omega arith in
    written_part _ _ (rw e at c.loop-i.invariant) (4 * c.links-links.result) c.data_at.result c.put_part-4.ensures (omega (arith, k)) (omega (arith, k)) (rw (c.data_at.ensures.0, k.1) (links_in bs c.args.rows.now c.requires.accepted)) (omega (arith, k))
    (λ j h. rw c.data_at.ensures.0 (sym (byte_link bs c.args.rows.now (link_data bs c.args.rows.now + j) j (omega (arith, k)) refl)))

pub loop-i-2-init : goal.loop-i-2-init
loop-i-2-init c = rw add-zero (at_edge_data (goal.at.loop-i-2-init c).After-put_part-4)

pub edge_row-requires-in-loop-i-2 : goal.edge_row-requires-in-loop-i-2
edge_row-requires-in-loop-i-2 c = row_few _ _ c.requires.accepted _ (omega arith)

pub put_part-requires-in-loop-i-2 : goal.put_part-requires-in-loop-i-2
put_part-requires-in-loop-i-2 c =
    let k = known (goal.at.put_part-requires-in-loop-i-2 c).After-links-links in
    (rw (c.data_at-from.ensures.0, c.edge_row-in-loop-i-2.ensures.0) (data_in _ _ c.requires.accepted c.loop-i-2.i (omega arith)), omega (arith, k, c.loop-i-2.invariant.length_is))

pub loop-i-2-preserved : goal.loop-i-2-preserved
loop-i-2-preserved c =
    let k = known (goal.at.loop-i-2-preserved c).After-links-links in
    let bs = c.args.plan.now in
    written_part _ _ c.loop-i-2.invariant 4 c.data_at-from.result c.put_part-in-loop-i-2.ensures (omega (arith, k)) (omega arith) (rw (c.data_at-from.ensures.0, c.edge_row-in-loop-i-2.ensures.0) (data_in bs _ c.requires.accepted c.loop-i-2.i (omega arith))) (omega (arith, k))
    (λ j h. rw (c.data_at-from.ensures.0, c.edge_row-in-loop-i-2.ensures.0) (sym (byte_data bs c.args.rows.now (edge_data bs c.args.rows.now + 4 * c.loop-i-2.i + j) c.loop-i-2.i j h (omega arith))))

pub returns : goal.returns
returns c =
    let k = known (goal.at.returns c).After-links-links in
    let e : c.loop-i-2.i ≡ length c.args.rows.now = omega arith in
    let a = counted c.args.plan.now c.args.rows.now c.requires.accepted in
    let b = written_all _ _ (rw e at c.loop-i-2.invariant) (sym a.2) refl in
    let f : c.labels_at-labels.result + 2 * c.links-links.result + 2 * length c.args.rows.now + 4 * c.links-links.result + 4 * length c.args.rows.now ≡ edge_data c.args.plan.now c.args.rows.now + 4 * length c.args.rows.now = omega (arith, k) in
    record { value = f ∙ b.count_is; out_value = rw f b.now_is; same_length = b.length_is }
