-- The loop's invariant: the steps of the points passed are made, and those begin at 1; the part is the same beside.
use mathlib.Core.Path.{◌∙◌}
use native.Mathlib.Omega.{arith}
use Rattle.rules_fill.specs.Shapes.{fill_horizon}
use Rattle.rules_fill.proofs.StepLaws.{steps_none}
use Rattle.rules_fill.proofs.ShapeLaws.{done, horizon_turn}
use Rattle.rules_listed.proofs.Going.{same_part, same_then}
use Rattle.rules_refill.proofs.Refills.{lent_of, still_in}
use Rattle.rules_refill.proofs.Refilling.{lent_well_formed}
use Rattle.rules_refill.proofs.refill.Refill.fill_horizon.Goals as goal

pub loop-y-init : goal.loop-y-init
loop-y-init c = let r = c.args.self.now in
    (omega arith, omega (arith, r.lent.points_are, (lent_well_formed (lent_of r c.requires.part_of)).two), steps_none _ _, same_part _)

pub horizon_edge_in-requires : goal.horizon_edge_in-requires
horizon_edge_in-requires c = let l = c.loop-y.invariant in
    record { part_of = still_in c.requires.part_of l.3; point_value = (l.3.point ∙ c.requires.point_value, l.0, omega arith) }

pub loop-y-preserved : goal.loop-y-preserved
loop-y-preserved c = let l = c.loop-y.invariant in
    (omega arith, omega arith, horizon_turn _ _ _ _ _ _ l.0 l.2 c.horizon_edge_in.ensures.cells_value, same_then l.3 c.horizon_edge_in.ensures.same_part)

pub returns-clause-cells_value : goal.returns-clause-cells_value
unfolding fill_horizon
returns-clause-cells_value c = done _ _ _ _ _ c.loop-y.invariant.2 (omega (arith, c.args.self.now.lent.points_are))
