-- What is gathered, given by pairs and spread is what the row's rules give.
use mathlib.Core.Path.{◌∙◌}
use native.Mathlib.Omega.{arith}
use Rattle.rules_listed.proofs.Going.{own_long, cells_long}
use Rattle.rules_dense.proofs.FreeHad.{run_had}
use Rattle.rules_dense.proofs.GatherLaws.{greatest}
use Rattle.rules_dense.proofs.RoomLaws.{same_room}
use Rattle.rules_dense.proofs.DenseLaws.{spread_all}
use Rattle.rules_dense.proofs.dense.remove_in_room.Goals as goal

pub give_pairs-requires : goal.give_pairs-requires
give_pairs-requires c = same_room _ _ _ _ _ _ c.requires.free_of.1 c.gather_own.ensures.same_length c.gather_others.ensures.same_length c.gather_part.ensures.same_length

pub spread_part-requires : goal.spread_part-requires
spread_part-requires c = record { room = (omega (arith, c.requires.free_of.0.width_is, own_long c.requires.remove_lent.by_pairs.part_of), omega (arith, c.requires.free_of.1.long_given, c.gather_part.ensures.same_length, c.give_pairs.ensures.same_length.1)) }

pub returns-clause-cells_value : goal.returns-clause-cells_value
returns-clause-cells_value c = let of = c.requires.free_of.0 in
    let room = c.requires.free_of.1 in
    let own = greatest _ _ _ _ _ _ _ room.long_own c.requires.free_of.2 c.gather_own.ensures.own_value in
    c.spread_part.ensures.cells_value ∙ spread_all (run_had c.args.free.run) _ of.mask_is _ of.width_is _ _ _ _ _ _ _ _ _ own c.gather_others.ensures.filled c.gather_part.ensures.filled c.give_pairs.ensures.product c.requires.remove_lent.by_pairs.joins (cells_long c.requires.remove_lent.by_pairs.part_of)
