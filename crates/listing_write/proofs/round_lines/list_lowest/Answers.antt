-- The lowest raised Z cell has the last line and its number.
use mathlib.Core.Path.{refl}
use native.Mathlib.Omega.{arith}
use lib.ListN.{length-set}
use Rattle.plan.proofs.Ranges.{sizes_few}
use Rattle.listing_write.proofs.RoundLaws.{width_fits, lowest_in, lowest_raised_lem, lowest_listed, lowest_numbered}
use Rattle.listing_write.proofs.round_lines.list_lowest.Goals as goal

pub width-width-requires : goal.width-width-requires
width-width-requires c = sizes_few c.args.plan.now c.requires.made.exact.accepted

pub lowest-c-requires : goal.lowest-c-requires
lowest-c-requires c = width_fits c.args.plan.now c.args.marks.now c.args.horizon c.args.first.now c.args.second.now c.args.index.now c.args.out.now c.args.m c.width-width.result c.requires.made c.width-width.ensures.0

pub list_raised-requires : goal.list_raised-requires
list_raised-requires c = let w = c.width-width in
    let l = c.lowest-c in
    (record { made = c.requires.made; room = omega (arith, c.requires.some_line); inside = lowest_in c.args.plan.now c.args.marks.now c.args.horizon c.args.first.now c.args.second.now c.args.index.now c.args.out.now c.args.m w.result c.requires.made w.ensures.0 c.requires.raises l.result l.ensures }, lowest_raised_lem c.args.plan.now c.args.marks.now c.args.horizon c.args.first.now c.args.second.now c.args.index.now c.args.out.now c.args.m w.result c.requires.made w.ensures.0 c.requires.raises l.result l.ensures)

pub returns : goal.returns
returns c = let w = c.width-width in
    let l = c.lowest-c in
    let n = c.points-n in
    record { numbers = lowest_numbered c.args.plan.now c.args.marks.now c.args.horizon c.args.first.now c.args.second.now c.args.index.now c.args.out.now c.args.m w.result c.requires.made w.ensures.0 c.requires.raises l.result l.ensures n.result _ n.ensures.0 refl; appends = lowest_listed c.args.plan.now c.args.marks.now c.args.horizon c.args.first.now c.args.second.now c.args.index.now c.args.out.now c.args.m w.result c.requires.made w.ensures.0 c.requires.raises l.result l.ensures _ c.list_raised.ensures; same_length = length-set _ _ _ }
