-- The numbers of a row's places are those of a run of bits.
use native.Mathlib.Omega.{arith}
use Rattle.rules_dense.proofs.FreePlaces.{low_pos, times_small, free_of}
use Rattle.rules_dense.proofs.dense.free_places.Goals as goal

pub nonzero_div-times : goal.nonzero_div-times
nonzero_div-times c = low_pos (free_of c.requires.0 c.requires.1).0

pub overflow_add-times : goal.overflow_add-times
overflow_add-times c = omega (arith, times_small (free_of c.requires.0 c.requires.1).0)

pub invariant_of-result : goal.invariant_of-result
invariant_of-result c = record { run = ∣ (free_of c.requires.0 c.requires.1).0 ∣₁ }

pub returns : goal.returns
returns c = let f = (free_of c.requires.0 c.requires.1).1 in
    record { width_is = f.0; mask_is = f.1 }
