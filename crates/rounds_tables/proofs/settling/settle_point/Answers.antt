-- The loop's invariant: the noted cells passed are copied and listed, and the lines are those of the table as it is.
use mathlib.Core.Path.{◌∙◌}
use Prim.Native.Nat.{◌+◌, ◌*◌, ◌≤◌}
use native.Mathlib.Omega.{arith}
use Rattle.rounds_tables.proofs.NotedLaws.{noted_at}
use Rattle.rounds_tables.proofs.LineLists.{row_at}
use Rattle.rounds_tables.proofs.Copying.{copied_none, cell_lent, copied_more, all_copied}
use Rattle.rounds_tables.proofs.settling.settle_point.Goals as goal

pub loop-i-init : goal.loop-i-init
loop-i-init c = let apart : 2 * c.args.y * c.args.width + c.args.width ≤ (2 * c.args.y + 1) * c.args.width = omega arith in
    (omega arith, noted_at _ _ _ _ _ _ c.requires.notes_are, apart, copied_none _ _ _ _ _ _ _ _ _ c.requires.lines_are)

pub overflow_add-place-items : goal.overflow_add-place-items
overflow_add-place-items c = omega (arith, (noted_at _ _ _ _ _ _ c.requires.notes_are).few)

pub slice_bounds-place-items-end : goal.slice_bounds-place-items-end
slice_bounds-place-items-end c = omega (arith, (noted_at _ _ _ _ _ _ c.requires.notes_are).few)

pub settle_cell-lined-requires : goal.settle_cell-lined-requires
settle_cell-lined-requires c = let l = c.loop-i in
    let note = row_at c.args.notes.now (c.args.y * c.args.width) c.args.n l.i (omega arith) in
    rw note (cell_lent _ _ _ _ _ _ _ _ _ c.requires.narrow c.requires.long_source c.requires.long_target l.invariant.2 c.requires.lists_long l.invariant.1 l.i _ _ _ (omega arith) l.invariant.3 _ (c.from.ensures ∙ note))

pub loop-i-preserved : goal.loop-i-preserved
loop-i-preserved c = let l = c.loop-i in
    let note = row_at c.args.notes.now (c.args.y * c.args.width) c.args.n l.i (omega arith) in
    (omega arith, l.invariant.1, l.invariant.2, copied_more _ _ _ _ _ _ _ _ _ c.requires.narrow c.requires.long_source c.requires.long_target l.invariant.2 c.requires.lists_long l.invariant.1 l.i _ _ _ (omega arith) l.invariant.3 _ (c.from.ensures ∙ note) _ _ _ (rw note at c.settle_cell-lined.ensures.after_cell) c.settle_cell-lined.ensures.same_length.0 (rw note at c.settle_cell-lined.ensures.same_length.1))

pub returns : goal.returns
returns c = let l = c.loop-i in
    record { after_point = all_copied _ _ _ _ _ _ _ l.i _ _ _ (omega arith) c.requires.lists_long l.invariant.1 l.invariant.3; same_length = (l.invariant.3.target_long, l.invariant.3.lists_long) }
