-- `plan::fields::data_at` meets its contract.
use native.Mathlib.Omega.{arith}
use Rattle.plan.specs.Layout.{data_at}
use Rattle.plan.proofs.fields.data_at.Goals as goal

pub returns : goal.returns
unfolding data_at
returns c = (rw (← c.byte_at.ensures.0, ← c.byte_at-2.ensures.0, ← c.ends_at.ensures.0), omega arith)
