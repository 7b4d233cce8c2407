-- The loop's invariant: the links passed are in the sets, both ways, and the sets have lost no point.
use mathlib.Core.Path.{◌∙◌}
use native.Mathlib.Omega.{arith}
use Rattle.plan.specs.Layout.{plan_of}
use Rattle.plan.proofs.Ranges.{accepted_well_formed}
use Rattle.rounds_points.proofs.Growing.{link_fits, link_made, links_all}
use Rattle.rounds_points.proofs.concern.depend_by_links.Goals as goal

pub add-requires : goal.add-requires
add-requires c = let l = c.loop-i in
    let r = link_fits (plan_of c.args.plan.now) c.args.sets.now (accepted_well_formed _ c.requires.0) l.i l.sets c.link_activation-a.result c.link_finish-c.result c.link_activation-a.ensures.0 c.link_finish-c.ensures.0 (omega (arith, c.links-n.ensures.0)) l.invariant.1 in
    (r.0, r.3)

pub add-requires-in-loop-i : goal.add-requires-in-loop-i
add-requires-in-loop-i c = let l = c.loop-i in
    let r = link_fits (plan_of c.args.plan.now) c.args.sets.now (accepted_well_formed _ c.requires.0) l.i l.sets c.link_activation-a.result c.link_finish-c.result c.link_activation-a.ensures.0 c.link_finish-c.ensures.0 (omega (arith, c.links-n.ensures.0)) l.invariant.1 in
    (omega (arith, c.add.ensures.same_length, r.1), r.2)

pub loop-i-preserved : goal.loop-i-preserved
loop-i-preserved c = let l = c.loop-i in
    (omega arith, link_made (plan_of c.args.plan.now) c.args.sets.now (accepted_well_formed _ c.requires.0) l.i l.sets c.link_activation-a.result c.link_finish-c.result _ _ c.link_activation-a.ensures.0 c.link_finish-c.ensures.0 c.add.ensures.sets_value c.add-in-loop-i.ensures.sets_value (omega (arith, c.links-n.ensures.0)) l.invariant.1, c.add-in-loop-i.ensures.same_length ∙ c.add.ensures.same_length ∙ l.invariant.2)

pub returns : goal.returns
returns c = let l = c.loop-i in
    record { links_in = links_all _ _ l.i l.sets (omega (arith, c.links-n.ensures.0)) l.invariant.1; same_length = l.invariant.2 }
