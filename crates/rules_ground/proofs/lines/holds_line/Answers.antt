-- `rules_ground::lines::holds_line` meets its contract: the width is a power of 2, so the mask is a remainder.
use mathlib.Core.Path.{◌∙◌}
use native.Mathlib.Omega.{arith}
use borrow.Author.Tests.{lt-ltb}
use Rattle.rules_ground.proofs.LineLaws.{holds_above, holds_start}
use Rattle.rules_ground.proofs.lines.holds_line.Goals as goal

pub returns-then-table-c-gt0 : goal.returns-then-table-c-gt0
returns-then-table-c-gt0 c = λ P e. lt-ltb _ _ c.if-table-c-gt0.true ∙ holds_above P _ _ c.if-table-c-gt0.true

pub returns-else-table-c-gt0 : goal.returns-else-table-c-gt0
returns-else-table-c-gt0 c = λ P e. holds_start P _ _ _ (omega arith) e
