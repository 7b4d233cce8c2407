-- At another point the part stays.
use mathlib.Core.Path.{refl}
use Rattle.plan.proofs.Ranges.{edge_byte}
use Rattle.rules_fill.specs.Shapes.{fill_edge}
use Rattle.rules_fill.proofs.ShapeLaws.{when_same, when_other}
use Rattle.rules_fill.proofs.fill.plan_edge_in.Goals as goal

pub from-requires : goal.from-requires
from-requires c = edge_byte c.args.plan.now c.requires.rows_lent.lent.accepted _ c.requires.i_bound

pub returns-then-from-x : goal.returns-then-from-x
unfolding fill_edge
returns-then-from-x c = record { part_value = when_other _ _ _ _ _ (rw c.requires.rows_of at c.from.ensures.0) c.if-from-x.true; same_length = refl }

pub returns : goal.returns
unfolding fill_edge
returns c = record { part_value = when_same _ _ _ _ _ _ (rw c.requires.rows_of at c.from.ensures.0) c.if-from-x.false c.edge_in.ensures.part_value; same_length = c.edge_in.ensures.same_length }
