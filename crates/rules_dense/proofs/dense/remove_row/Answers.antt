-- Few steps by halves are few places, and either way makes what the row's rules give.
use native.Mathlib.Omega.{arith}
use Rattle.rules_listed.proofs.Going.{own_long}
use Rattle.rules_dense.proofs.dense.remove_row.Goals as goal

pub free_places-free-requires : goal.free_places-free-requires
free_places-free-requires c = (c.requires.run, omega (arith, own_long c.requires.remove_lent.by_pairs.part_of, c.args.part.now.narrow))

pub remove_by_halves-requires : goal.remove_by_halves-requires
remove_by_halves-requires c = let n = c.steps_by_halves.ensures (omega (arith, c.raised_pairs-pairs.ensures)) in
    record { remove_lent = c.requires.remove_lent; free_of = (c.free_places-free.ensures, n) }
