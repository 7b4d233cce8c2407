-- Each size of lists is taken where the plan's cells are no more; an accepted plan has no more than the largest has room for.
use mathlib.Core.Path.{refl}
use native.Mathlib.Omega.{arith}
use Rattle.plan.proofs.Ranges.{accepted_bounded, sizes_few}
use Rattle.rounds_making.proofs.making.rounds_to.Goals as goal

pub cells-end-requires : goal.cells-end-requires
cells-end-requires c = sizes_few c.args.plan.now c.requires.ready.accepted

pub run_with-requires-2-clause-sizes : goal.run_with-requires-2-clause-sizes
run_with-requires-2-clause-sizes c = ((accepted_bounded c.args.plan.now c.requires.ready.accepted).cells_in, refl, omega arith)
