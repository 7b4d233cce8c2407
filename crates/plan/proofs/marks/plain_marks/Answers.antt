-- `plan::marks::plain_marks` meets its contract.
use mathlib.Core.Bool.{cond}
use Rattle.plan.specs.Label.{plain}
use Rattle.plan.proofs.Marked.{tabulated}
use Rattle.plan.proofs.marks.plain_marks.Goals as goal

pub returns : goal.returns
unfolding plain
returns c = record { mark = tabulated (λ b. cond (plain 4 b) 1 0) 256 }
