-- `plan::fields::ends_at` meets its contract.
use native.Mathlib.Omega.{arith}
use Rattle.plan.specs.Layout.{ends_at}
use Rattle.plan.proofs.fields.ends_at.Goals as goal

pub returns : goal.returns
unfolding ends_at
returns c = (omega arith, omega arith)
