-- A table of zeros has the lists that were lent; of any other all lines are listed, and every point may have more.
use mathlib.Core.Path.{refl}
use Rattle.plan.proofs.Ranges.{sizes_few}
use Rattle.rounds_making.proofs.ListSizes.{zeros_first, lines_first, lines_room, points_few}
use Rattle.rounds_making.proofs.making.first_lists.Goals as goal

pub returns-then-zeros : goal.returns-then-zeros
returns-then-zeros c = record { first_lists = rw c.new.ensures (zeros_first c.args.plan.now c.args.first.now c.args.lists.now c.args.counts.now c.args.zeros c.requires.1 c.if-zeros.true); same_length = (refl, refl) }

pub width-requires : goal.width-requires
width-requires c = sizes_few c.args.plan.now c.requires.0

pub list_lines-requires : goal.list_lines-requires
list_lines-requires c = let n = c.points-n in
    lines_room c.args.plan.now c.requires.0 n.result n.ensures.0 c.args.first.now c.args.lists.now c.args.counts.now c.width.result c.width.ensures.0 c.args.zeros c.width.ensures.1 c.requires.1

pub below-requires : goal.below-requires
below-requires c = let n = c.points-n in
    points_few c.args.plan.now c.requires.0 n.result n.ensures.0

pub returns : goal.returns
returns c = let n = c.points-n in
    let w = c.width in
    record { first_lists = rw c.below.ensures (lines_first c.args.plan.now c.requires.0 n.result n.ensures.0 c.args.first.now _ _ w.result w.ensures.0 c.list_lines.ensures.all_listed); same_length = c.list_lines.ensures.same_length }
