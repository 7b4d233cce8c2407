-- The loop's invariant: the points that are left have the first table's cells, the others the next ones, and what is raised is noted.
use Prim.Native.Nat.{◌+◌, ◌-◌, ◌*◌}
use native.Mathlib.Omega.{arith}
use Rattle.plan.proofs.Ranges.{sizes_few}
use Rattle.rounds_tables.proofs.RoundByPoints.{AtNext, refill_lent, none_lent, round_begins, round_ends, at_next}
use Rattle.rounds_tables.proofs.making.next_round.Goals.{In-Some}
use Rattle.rounds_tables.proofs.making.next_round.Goals as goal

-- where a pass of the loop stands
abbrev At : In-Some → Type 0
At c =
    let a = c.args in
    let l = c.loop-x in
    let x = c.in-Some.x in
    AtNext a.plan.now a.marks.now a.horizon a.first.now a.second.now a.lists.now a.counts.now a.rows.now a.notes.now a.noted.now a.width a.mask a.set a.over c.cells-end.result (x * a.width + a.width - x * a.width) l.x-iterator.left x l.second l.notes l.noted

point : (c : In-Some) → At c
point c =
    let a = c.args in
    let l = c.loop-x in
    at_next a.plan.now a.marks.now a.horizon a.first.now a.second.now a.lists.now a.counts.now a.rows.now a.notes.now a.noted.now a.width a.mask a.set a.over c.requires l.x-iterator.left l.second l.notes l.noted l.invariant.2 c.in-Some.x c.in-Some.ensures.steps.0 c.cells-end.result c.cells-end.ensures

pub cells-end-requires : goal.cells-end-requires
cells-end-requires c = sizes_few c.args.plan.now c.requires.ready.accepted

pub loop-x-init : goal.loop-x-init
loop-x-init c = let a = c.args in
    (tt, tt, rw (c.into_iter-x-iterator.ensures.into_iter_gives, c.iter-x-items.ensures) (round_begins a.plan.now a.marks.now a.horizon a.first.now a.second.now a.lists.now a.counts.now a.rows.now a.notes.now a.noted.now a.width a.mask a.set a.over c.requires))

pub overflow_mul-start : goal.overflow_mul-start
overflow_mul-start c = omega (arith, (point c).small)

pub new-refill-requires : goal.new-refill-requires
new-refill-requires c = let a = c.args in
    refill_lent a.plan.now a.marks.now a.horizon a.first.now a.second.now a.lists.now a.counts.now a.rows.now a.notes.now a.noted.now a.width a.mask a.set a.over c.requires c.cells-end.result c.cells-end.ensures

pub offset_bounds-second-start : goal.offset_bounds-second-start
offset_bounds-second-start c = omega (arith, (point (goal.at.offset_bounds-second-start c).In-Some).small)

pub slice_bounds-refill_point-count : goal.slice_bounds-refill_point-count
slice_bounds-refill_point-count c = omega (arith, (point (goal.at.slice_bounds-refill_point-count c).In-Some).row)

pub slice_bounds-refill_point-start : goal.slice_bounds-refill_point-start
slice_bounds-refill_point-start c = omega (arith, (point (goal.at.slice_bounds-refill_point-start c).In-Some).row)

pub overflow_add-start : goal.overflow_add-start
overflow_add-start c = omega (arith, (point (goal.at.overflow_add-start c).In-Some).small)

pub offset_bounds-notes-start : goal.offset_bounds-notes-start
offset_bounds-notes-start c = omega (arith, (point (goal.at.offset_bounds-notes-start c).In-Some).small)

pub slice_bounds-refill_point-count-in-loop-x : goal.slice_bounds-refill_point-count-in-loop-x
slice_bounds-refill_point-count-in-loop-x c = omega arith

pub slice_bounds-refill_point-start-in-loop-x : goal.slice_bounds-refill_point-start-in-loop-x
slice_bounds-refill_point-start-in-loop-x c = omega arith

pub slice_bounds-refill_point-end-in-loop-x : goal.slice_bounds-refill_point-end-in-loop-x
slice_bounds-refill_point-end-in-loop-x c = omega (arith, (point (goal.at.slice_bounds-refill_point-end-in-loop-x c).In-Some).row_notes)

pub refill_point-requires : goal.refill_point-requires
refill_point-requires c = let p = point (goal.at.refill_point-requires c).In-Some in
    let a = c.args in
    let m = c.new-refill.ensures in
    let over = none_lent a.plan.now a.marks.now a.horizon a.first.now a.second.now a.lists.now a.counts.now a.rows.now a.notes.now a.noted.now a.width a.mask a.set a.over c.requires c.cells-end.result c.cells-end.ensures in
    record {
      part_lent = record { point_in = omega (arith, m.points_are, p.point_in); cells_long = rw m.width_is p.part_long; notes_long = rw m.width_is p.notes_room; cells_are = rw (m.width_is, m.first_is) p.cells_are };
      none_over = rw (m.plan_is, m.horizon_is, m.first_is, m.lists_are, m.counts_are) over;
    }

pub bounds-noted-x : goal.bounds-noted-x
bounds-noted-x c = (point (goal.at.bounds-noted-x c).In-Some).x_noted

pub loop-x-preserved : goal.loop-x-preserved
loop-x-preserved c = let f = c.refill_point in
    let s = c.in-Some.ensures.steps in
    let p = point (goal.at.loop-x-preserved c).In-Some in
    let m = c.new-refill.ensures in
    (tt, tt, p.more f.new.part f.new.notes f.result _ f.ensures.same_length.0 f.ensures.same_length.1 (rw (m.plan_is, m.horizon_is, m.first_is) at f.ensures.part_value) (rw (m.width_is, m.first_is) at f.ensures.noted) s.2 s.3)

pub returns : goal.returns
returns c = let a = c.args in
    let l = c.loop-x in
    let r = round_ends a.plan.now a.marks.now a.horizon a.first.now a.second.now a.lists.now a.counts.now a.rows.now a.notes.now a.noted.now a.width a.mask a.set a.over c.requires l.x-iterator.left l.second l.notes l.noted c.in-None.ensures.steps.0 l.invariant.2 in
    record { second_value = r.0; round_noted = r.1; same_length = (l.invariant.2.0.as_long, l.invariant.2.1, l.invariant.2.2) }
