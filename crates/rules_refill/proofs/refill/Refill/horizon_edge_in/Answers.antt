-- The row is that of the horizon edge, which starts at the first alarm.
use mathlib.Core.Path.{refl, sym}
use native.Mathlib.Omega.{arith}
use Rattle.rules.specs.declared.Edge.TheVariants.{HorizonEdge}
use Rattle.rules_refill.proofs.Refills.{lent_of}
use Rattle.rules_refill.proofs.Refilling.{edge_of, edge_made}
use Rattle.rules_refill.proofs.refill.Refill.horizon_edge_in.Goals as goal

pub propagate_row-requires-clause-row_of : goal.propagate_row-requires-clause-row_of
propagate_row-requires-clause-row_of c = let r = c.args.self.now in
    let p = c.requires.point_value in
    edge_of (lent_of r c.requires.part_of) (HorizonEdge c.args.y) _ (rw c.args.self.now.lent.rows_are at c.horizon_row.ensures) refl (p.1, omega (arith, p.2, r.lent.points_are)) (sym p.0)

pub returns-clause-cells_value : goal.returns-clause-cells_value
returns-clause-cells_value c = edge_made (lent_of c.args.self.now c.requires.part_of) _ _ (HorizonEdge c.args.y) _ (rw c.args.self.now.lent.rows_are at c.horizon_row.ensures) refl c.propagate_row.ensures.cells_value
