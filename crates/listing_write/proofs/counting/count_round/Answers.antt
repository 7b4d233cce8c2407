-- The round, the cells that it raised, and the copy back.
use Rattle.plan.proofs.Ranges.{sizes_few}
use Rattle.listing_write.proofs.ExactTables.{exact_ready, exact_room}
use Rattle.listing_write.proofs.CountLaws.{round_counted}
use Rattle.listing_write.proofs.counting.count_round.Goals as goal

pub round-requires : goal.round-requires
round-requires c = record { ready = exact_ready _ _ _ _ _ c.requires.0; at_most = exact_room _ _ _ _ _ c.requires.0 4000000000 c.requires.1 }

pub cells-end-requires : goal.cells-end-requires
cells-end-requires c = sizes_few c.args.plan.now c.requires.0.accepted

pub returns : goal.returns
returns c = let p = c.copy_cells in
    let r = c.round in
    let t = round_counted c.args.plan.now _ _ c.args.first.now c.args.second.now c.requires.0 c.args.lines c.count_raised-count.result _ _ _ c.cells-end.ensures r.ensures.second_value c.count_raised-count.ensures p.ensures.target_value in
    record { value = t.count_is; first_value = t.first_is; second_value = t.second_is; same_length = p.ensures.same_length; same_length_2 = r.ensures.same_length }
