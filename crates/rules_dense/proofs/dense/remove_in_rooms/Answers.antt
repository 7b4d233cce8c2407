-- The room is new.
use Rattle.rules_dense.proofs.FreeHad.{run_had}
use Rattle.rules_dense.proofs.RoomLaws.{new_room, no_waits}
use Rattle.rules_dense.proofs.dense.remove_in_rooms.Goals as goal

pub remove_in_room-requires : goal.remove_in_room-requires
remove_in_room-requires g c = let n = g.row.N in
    let free = c.requires.free_of in
    let r = c.requires.rooms in
    record { remove_lent = c.requires.remove_lent; free_of = (free, new_room n g.row.M (run_had c.args.free.run) r.0 r.1, no_waits n r.0) }
