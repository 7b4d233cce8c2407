-- The round is filled, its lowest Z cell listed and numbered, and it is copied.
use Prim.Native.Nat.{◌-◌}
use Rattle.plan.proofs.Ranges.{sizes_few}
use Rattle.listing_write.proofs.ExactTables.{exact_ready, exact_room}
use Rattle.listing_write.proofs.RoundLaws.{filled_lowest, ready_round, round_listed}
use Rattle.listing_write.proofs.round_lines.list_last.Goals as goal

pub round-requires : goal.round-requires
round-requires c = record { ready = exact_ready _ _ _ _ _ c.requires.ready.exact; at_most = exact_room _ _ _ _ _ c.requires.ready.exact 4000000000 c.requires.ready.small }

pub list_lowest-requires : goal.list_lowest-requires
list_lowest-requires c = record { made = ready_round c.args.plan.now c.args.marks.now c.args.horizon c.args.first.now c.args.second.now c.args.index.now c.args.out.now c.args.m (c.args.m - 1) c.requires.ready _ c.round.ensures.second_value c.round.ensures.same_length; some_line = c.requires.some_line; raises = c.requires.raises }

pub cells-end-requires : goal.cells-end-requires
cells-end-requires c = sizes_few c.args.plan.now c.requires.ready.exact.accepted

pub returns : goal.returns
returns c = let e = c.cells-end in
    round_listed c.args.plan.now c.args.marks.now c.args.horizon c.args.first.now c.args.second.now c.args.index.now c.args.out.now c.args.m (c.args.m - 1) c.requires.ready _ c.round.ensures.second_value c.round.ensures.same_length _ _ e.result _ _ _ (filled_lowest c.args.plan.now c.args.marks.now c.args.horizon c.args.first.now c.args.second.now c.args.index.now c.args.out.now c.args.m (c.args.m - 1) c.requires.ready _ c.round.ensures.second_value c.round.ensures.same_length) e.ensures c.copy_cells.ensures.target_value c.copy_cells.ensures.same_length c.list_lowest.ensures.same_length c.list_lowest.ensures.numbers c.list_lowest.ensures.appends
