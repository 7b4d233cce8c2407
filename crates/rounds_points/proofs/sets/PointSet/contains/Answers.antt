-- The bit of the point, shifted down, is 1.
use mathlib.Core.Path.{ap}
use Prim.Native.Nat.{ℕ, ◌/◌, ◌^◌}
use lib.Bits.{and_mask}
use lib.Dec.{eqb}
use Rattle.plan.specs.LinkSet.{contains}
use Rattle.rounds_points.proofs.sets.PointSet.contains.Goals as goal

pub returns : goal.returns
unfolding contains
returns c = rw (← c.self.view_is) (ap (λ (b : ℕ). eqb b 1) (and_mask (c.self.inside.bits / 2 ^ c.args.x) 1))
