-- The loop's invariant: each changed point is left, or none of its raised cells is above the horizon.
use mathlib.Core.Bool.{true≢false}
use Prim.Native.Nat.{◌+◌, ◌*◌, ◌≤◌, ◌<◌}
use native.Mathlib.Omega.{arith}
use lib.ListN.{length, get_or}
use Rattle.rules_listed.specs.Places.{Places}
use Rattle.rounds_tables.proofs.Walking.{none_high, places_inside, over_at, over_first, over_passed, over_last}
use Rattle.rounds_tables.proofs.settling.over_horizon.Goals.{In-Some}
use Rattle.rounds_tables.proofs.settling.over_horizon.Goals as goal

-- the point taken out: its row of the table, and its raised places
abbrev Point : In-Some → Type 0
Point c =
    let s = c.args in
    (c.in-Some.y < s.points) × (c.in-Some.y * s.width + s.width ≤ length s.table.now) × Places s.lists.now (2 * c.in-Some.y * s.width) (get_or s.counts.now (2 * c.in-Some.y) 0) s.width

point : (c : In-Some) → Point c
point c =
    over_at _ _ _ _ _ _ _ _ c.requires c.loop-y.invariant.2.left_below c.in-Some.ensures.steps.0

pub loop-y-init : goal.loop-y-init
loop-y-init c = (tt, tt, rw (c.into_iter-y-iterator.ensures.into_iter_gives, c.iter-y-items.ensures) (over_first _ _ _ _ _ _ _ c.requires.below))

pub overflow_mul-base : goal.overflow_mul-base
overflow_mul-base c = omega (arith, (point (goal.at.overflow_mul-base c).In-Some).1)

pub overflow_mul-start-in-loop-y : goal.overflow_mul-start-in-loop-y
overflow_mul-start-in-loop-y c = omega (arith, (point (goal.at.overflow_mul-start-in-loop-y c).In-Some).2.long)

pub overflow_add-cells : goal.overflow_add-cells
overflow_add-cells c = omega (arith, (point (goal.at.overflow_add-cells c).In-Some).1)

pub offset_bounds-table-base : goal.offset_bounds-table-base
offset_bounds-table-base c = omega (arith, (point (goal.at.offset_bounds-table-base c).In-Some).1)

pub slice_bounds-cells-end : goal.slice_bounds-cells-end
slice_bounds-cells-end c = omega (arith, (point (goal.at.slice_bounds-cells-end c).In-Some).1)

pub overflow_add-raised : goal.overflow_add-raised
overflow_add-raised c = omega (arith, (point (goal.at.overflow_add-raised c).In-Some).2.long)

pub slice_bounds-raised-end : goal.slice_bounds-raised-end
slice_bounds-raised-end c = omega (arith, (point (goal.at.slice_bounds-raised-end c).In-Some).2.long)

pub bounds-counts-y : goal.bounds-counts-y
bounds-counts-y c = omega (arith, (point (goal.at.bounds-counts-y c).In-Some).0, c.requires.counts_long)

pub any_over-requires : goal.any_over-requires
any_over-requires c = let p = point (goal.at.any_over-requires c).In-Some in places_inside _ _ _ _ _ _ p.2 p.1

pub returns-then-any_over : goal.returns-then-any_over
returns-then-any_over c = record { none = λ e. absurd (true≢false e) }

pub loop-y-preserved : goal.loop-y-preserved
loop-y-preserved c = (tt, tt, over_passed _ _ _ _ _ _ _ _ _ _ _ c.loop-y.invariant.2 c.in-Some.ensures.steps.2 c.in-Some.ensures.steps.3 (none_high _ _ _ _ _ _ _ (point (goal.at.loop-y-preserved c).In-Some).2 _ c.any_over.ensures) c.if-any_over.false)

pub returns : goal.returns
returns c = over_last _ _ _ _ _ _ _ _ c.in-None.ensures.steps.0 c.loop-y.invariant.2
