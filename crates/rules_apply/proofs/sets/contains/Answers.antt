-- `rules_apply::sets::contains` meets its contract.
use mathlib.Core.Path.{ap}
use Prim.Native.Nat.{ℕ, ◌/◌, ◌^◌}
use lib.Bits.{and_mask}
use lib.Dec.{eqb}
use Rattle.plan.specs.LinkSet.{contains}
use Rattle.rules_apply.proofs.sets.contains.Goals as goal

pub returns : goal.returns
unfolding contains
returns c = ap (λ (b : ℕ). eqb b 1) (and_mask (c.args.set / 2 ^ c.args.i) 1)
