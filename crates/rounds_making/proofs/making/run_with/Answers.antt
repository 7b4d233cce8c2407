-- The lists have room for a plan of so many cells.
use Rattle.rounds_making.proofs.ListSizes.{first_room, lists_room}
use Rattle.rounds_making.proofs.making.run_with.Goals as goal

pub first_lists-lined-requires : goal.first_lists-lined-requires
first_lists-lined-requires g c = first_room c.args.plan.now c.args.marks.now c.args.horizon c.args.first.now c.args.second.now c.args.zeros c.requires.run_lent _ _ c.requires.sizes.0 c.requires.sizes.1

pub rounds_from-requires : goal.rounds_from-requires
rounds_from-requires g c =
    let r = lists_room c.args.plan.now c.args.marks.now c.args.horizon c.args.first.now c.args.second.now c.args.zeros c.requires.run_lent _ _ c.requires.sizes.0 c.requires.sizes.1 _ _ _ c.first_lists-lined.ensures.first_lists c.first_lists-lined.ensures.same_length.0 c.first_lists-lined.ensures.same_length.1 in
    record { ready = r.0; room_from = r.1.0; second_value = r.1.1.0; lists_lent = r.1.1.1 }
