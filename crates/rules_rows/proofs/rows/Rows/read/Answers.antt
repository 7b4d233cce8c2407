-- Before any edge is read no point has a first edge.
use Rattle.std.proofs.Common.{None}
use Rattle.std.proofs.lemmas.List.{get_or-replicate}
use Rattle.plan.proofs.Ranges.{accepted_bounded}
use Rattle.rules_rows.proofs.RowLaws.{none_read}
use Rattle.rules_rows.proofs.rows.Rows.read.Goals as goal

pub read_edges-requires : goal.read_edges-requires
read_edges-requires c = (c.requires, none_read _ (accepted_bounded _ c.requires) _ _ (λ x h. get_or-replicate 32 x None None h))
