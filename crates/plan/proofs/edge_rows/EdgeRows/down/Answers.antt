-- `plan::edge_rows::EdgeRows::down` meets its contract.
use mathlib.Core.Path.{ap, ◌∙◌}
use native.Mathlib.Omega.{arith}
use borrow.Author.Rules.{rules}
use Rattle.plan.specs.Bytes.{word_at}
use Rattle.plan.specs.Layout.{ends_at, data_at, row_of_edge, plan_of, down_at}
use Rattle.plan.proofs.Weights.{down_positive, down_negative}
use Rattle.plan.proofs.edge_rows.EdgeRows.down.Goals as goal

pub returns-then-weight-lt32768 : goal.returns-then-weight-lt32768
unfolding plan_of down_at data_at ends_at row_of_edge
returns-then-weight-lt32768 c = (down_positive _ _ (c.word_at-weight.ensures.0 ∙ ap (word_at _) (omega arith)) c.if-weight-lt32768.true, search rules)

pub returns-else-weight-lt32768 : goal.returns-else-weight-lt32768
unfolding plan_of down_at data_at ends_at row_of_edge
returns-else-weight-lt32768 c = (down_negative _ _ (c.word_at-weight.ensures.0 ∙ ap (word_at _) (omega arith)) c.if-weight-lt32768.false, search rules)
