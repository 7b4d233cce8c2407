-- The loop's invariant: the edges passed are in the sets, which have lost no point.
use mathlib.Core.Path.{◌∙◌}
use native.Mathlib.Omega.{arith}
use Rattle.plan.specs.Layout.{plan_of}
use Rattle.plan.proofs.Ranges.{accepted_well_formed}
use Rattle.rounds_points.proofs.Growing.{edge_fits_lem, edge_made, edges_all}
use Rattle.rounds_points.proofs.concern.depend_by_edges.Goals as goal

pub add-requires : goal.add-requires
add-requires c = let l = c.loop-i in
    edge_fits_lem (plan_of c.args.plan.now) c.args.sets.now (accepted_well_formed _ c.requires.0) l.i l.sets c.to.result c.from.result (rw c.new-rows.ensures at c.to.ensures.0) (rw c.new-rows.ensures at c.from.ensures.0) (omega (arith, c.edges-n.ensures.0)) l.invariant.1

pub loop-i-preserved : goal.loop-i-preserved
loop-i-preserved c = let l = c.loop-i in
    (omega arith, edge_made (plan_of c.args.plan.now) c.args.sets.now (accepted_well_formed _ c.requires.0) l.i l.sets c.to.result c.from.result _ (rw c.new-rows.ensures at c.to.ensures.0) (rw c.new-rows.ensures at c.from.ensures.0) c.add.ensures.sets_value (omega (arith, c.edges-n.ensures.0)) l.invariant.1, c.add.ensures.same_length ∙ l.invariant.2)

pub returns : goal.returns
returns c = let l = c.loop-i in
    record { edges_in = edges_all _ _ l.i l.sets (omega (arith, c.edges-n.ensures.0)) l.invariant.1; same_length = l.invariant.2 }
