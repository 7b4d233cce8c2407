-- The low bits stay, and the others lie further up.
use native.Mathlib.Omega.{arith}
use lib.Bits.{and_le_l}
use Rattle.rules_dense.proofs.FreeHad.{run_had}
use Rattle.rules_dense.proofs.FreePlaces.{low_pos, free_made, free_in}
use Rattle.rules_dense.proofs.gather.Free.place.Goals as goal

pub overflow_sub-r : goal.overflow_sub-r
overflow_sub-r c = low_pos (run_had c.args.self.run)

pub overflow_sub-result : goal.overflow_sub-result
overflow_sub-result c = and_le_l _ _

pub overflow_mul-result : goal.overflow_mul-result
overflow_mul-result c = omega (arith, free_made (run_had c.args.self.run) c.args.z, free_in (run_had c.args.self.run) c.args.z c.requires, (run_had c.args.self.run).small)

pub overflow_add-result : goal.overflow_add-result
overflow_add-result c = omega (arith, free_made (run_had c.args.self.run) c.args.z, free_in (run_had c.args.self.run) c.args.z c.requires, (run_had c.args.self.run).small)

pub returns : goal.returns
returns c = let e = free_made (run_had c.args.self.run) c.args.z in
    (e, omega (arith, e, free_in (run_had c.args.self.run) c.args.z c.requires))
