-- `plan::edge_rows::EdgeRows::label` meets its contract.
use mathlib.Core.Path.{ap, ◌∙◌}
use native.Mathlib.Omega.{arith}
use Rattle.plan.specs.Bytes.{byte_at}
use Rattle.plan.specs.Layout.{ends_at, data_at, row_of_edge, plan_of}
use Rattle.plan.proofs.edge_rows.EdgeRows.label.Goals as goal

pub returns : goal.returns
unfolding plan_of data_at ends_at row_of_edge
returns c = (c.byte_at.ensures.0 ∙ ap (byte_at _) (omega arith), c.byte_at.ensures.1)
