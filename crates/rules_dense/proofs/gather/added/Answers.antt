-- A wait of 0 stays.
use native.Mathlib.Omega.{arith}
use Rattle.rules_dense.proofs.GatherLaws.{added_line, added_none}
use Rattle.rules_dense.proofs.gather.added.Goals as goal

pub returns-then-wait-gt0 : goal.returns-then-wait-gt0
returns-then-wait-gt0 c = added_line _ _ (omega arith)

pub returns : goal.returns
returns c = added_none _ _ (λ h. omega arith)
