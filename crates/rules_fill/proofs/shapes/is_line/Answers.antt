-- The two tests are the definition's.
use borrow.Author.Tests.{lt-ltb, le-ltb}
use Rattle.rules_fill.specs.Shapes.{is_line}
use Rattle.rules_fill.proofs.shapes.is_line.Goals as goal

pub returns-then-wait-gt0 : goal.returns-then-wait-gt0
unfolding is_line
returns-then-wait-gt0 c = rw (lt-ltb _ _ c.if-wait-gt0.true)

pub returns-else-wait-gt0 : goal.returns-else-wait-gt0
unfolding is_line
returns-else-wait-gt0 c = rw (le-ltb _ _ c.if-wait-gt0.false)
