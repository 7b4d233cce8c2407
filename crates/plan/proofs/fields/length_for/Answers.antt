-- `plan::fields::length_for` meets its contract.
use native.Mathlib.Omega.{arith}
use Rattle.plan.specs.Layout.{plan_of, length_for}
use Rattle.plan.proofs.fields.length_for.Goals as goal

pub returns : goal.returns
unfolding plan_of length_for
returns c = (omega arith, omega arith)
