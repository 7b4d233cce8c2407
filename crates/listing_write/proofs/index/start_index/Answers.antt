-- The loop's invariant: the cells passed have their starting numbers.
use mathlib.Core.Path.{refl, ◌∙◌}
use native.Mathlib.Omega.{arith}
use lib.ListN.{length-set}
use Rattle.plan.specs.Layout.{plan_of}
use Rattle.plan.proofs.Ranges.{accepted_bounded, sizes_few}
use Rattle.listing_write.proofs.IndexStores.{width_pos, started_none, started_more, started_all}
use Rattle.listing_write.proofs.index.start_index.Goals as goal

pub width-width-requires : goal.width-width-requires
width-width-requires c = sizes_few c.args.plan.now c.requires.0

pub loop-c-init : goal.loop-c-init
loop-c-init c = (omega arith, refl, started_none (plan_of c.args.plan.now) c.args.index.now)

pub start_number-requires : goal.start_number-requires
start_number-requires c = (width_pos (plan_of c.args.plan.now) c.width-width.result c.width-width.ensures.0, omega (arith, c.requires.1, (accepted_bounded c.args.plan.now c.requires.0).cells_in))

pub loop-c-preserved : goal.loop-c-preserved
loop-c-preserved c = let l = c.loop-c in
    let s = c.args in
    let n = c.start_number in
    (omega arith, length-set _ _ _ ∙ l.invariant.1, started_more (plan_of s.plan.now) l.c n.result l.index _ (omega (arith, l.invariant.1)) (n.ensures.0 (plan_of s.plan.now) c.width-width.ensures.0) refl l.invariant.2)

pub shape_of-index : goal.shape_of-index
shape_of-index c = c.loop-c.invariant.1

pub returns : goal.returns
returns c = let l = c.loop-c in
    record { index_value = started_all (plan_of c.args.plan.now) l.c l.index (omega (arith, c.requires.1, l.invariant.0)) (l.invariant.1 ∙ c.requires.1) l.invariant.2; same_length = l.invariant.1 }
