-- The loop's invariant: both tables hold the table of the rounds made, none of them stopped, and what is known of it is in the lists.
use mathlib.Core.Path.{◌≡◌, refl, ap, ◌∙◌}
use Prim.Native.Nat.{ℕ, ◌-◌, ◌^◌}
use native.Mathlib.Omega.{arith}
use Rattle.plan.specs.Horizons.{plan_with}
use Rattle.plan.proofs.Ranges.{accepted_bounded, sizes_few}
use Rattle.plan.proofs.Horizons.{with_well_formed}
use Rattle.rounds_making.proofs.RoundsMade.{alarm_fits, ran_stopped, ran_spent}
use Rattle.rounds_making.proofs.RoundByRound.{rounding_first, rounding_ready, rounding_more, no_sets, none_noted}
use Rattle.rounds_making.proofs.making.rounds_from.Goals as goal

pub width-width-requires : goal.width-width-requires
width-width-requires c = sizes_few c.args.plan.now c.requires.ready.accepted

pub label_mask-requires : goal.label_mask-requires
label_mask-requires c = c.requires.ready.accepted

pub read-rows-requires : goal.read-rows-requires
read-rows-requires c = c.requires.ready.accepted

pub find_dependents-requires : goal.find_dependents-requires
find_dependents-requires c = (c.requires.ready.accepted, rw c.new-dependents.ensures (no_sets _ (accepted_bounded _ c.requires.ready.accepted).points_in))

pub find_givers-requires : goal.find_givers-requires
find_givers-requires c = c.requires.ready.accepted

pub first_alarm_waits-requires : goal.first_alarm_waits-requires
first_alarm_waits-requires c = alarm_fits (plan_with c.args.plan.now c.args.horizon) (with_well_formed _ c.requires.ready.accepted _ c.requires.ready.horizon_far) _ _ _ c.width-width.ensures.0 refl c.requires.ready.long_first

pub below-requires : goal.below-requires
below-requires c = omega (arith, c.points-n.ensures.0, (accepted_bounded _ c.requires.ready.accepted).points_in)

pub loop-made-init : goal.loop-made-init
loop-made-init c = let b = (accepted_bounded _ c.requires.ready.accepted).points_in in
    (omega arith, rounding_first _ _ _ c.args.first.now c.args.second.now _ _ _ c.requires.ready c.requires.room_from _ _ c.requires.lists_lent _ _ _ c.requires.second_value (none_noted _ b) c.width-width.ensures.0 c.first_alarm_waits.ensures (c.below.ensures ∙ ap (λ (n : ℕ). 2 ^ n - 1) c.points-n.ensures.0) refl refl, refl)

pub make_round-last-requires : goal.make_round-last-requires
make_round-last-requires c = let l = c.loop-made in
    rounding_ready _ _ _ c.args.first.now c.args.second.now _ _ _ c.requires.ready c.requires.room_from _ _ c.requires.lists_lent l.made _ _ _ _ _ _ _ l.invariant.1

pub ending-requires : goal.ending-requires
ending-requires c = let t = c.make_round-last.ensures.round_made in
    let l = c.loop-made in
    let w = c.width-width in
    alarm_fits (plan_with c.args.plan.now c.args.horizon) (with_well_formed _ c.requires.ready.accepted _ c.requires.ready.horizon_far) w.result _ _ w.ensures.0 (t.second_length ∙ l.invariant.1.held.second_length) c.requires.ready.long_second

pub returns-then-last : goal.returns-then-last
returns-then-last c = let t = c.make_round-last in
    let l = c.loop-made in
    let i = l.invariant.1 in
    let w = c.width-width in
    let lengths = t.ensures.same_length in
    record { ran = ran_stopped (plan_with c.args.plan.now c.args.horizon) (with_well_formed _ c.requires.ready.accepted _ c.requires.ready.horizon_far) c.args.first.now c.requires.ready.long_first c.args.second.now l.made l.first l.second i.held _ _ _ _ _ t.result t.ensures.round_made c.args.limit w.result _ (omega (arith, c.loop-made-test.true)) c.if-last.true w.ensures.0 c.ending.ensures; same_length = (lengths.0 ∙ i.lists_length, lengths.1 ∙ i.counts_length, lengths.2 ∙ i.notes_length) }

pub loop-made-preserved : goal.loop-made-preserved
loop-made-preserved c = let l = c.loop-made in
    (omega (arith, c.loop-made-test.true), rounding_more _ _ _ c.args.first.now c.args.second.now _ _ _ c.requires.ready c.requires.room_from _ _ c.requires.lists_lent l.made _ _ _ _ _ _ _ l.invariant.1 _ _ _ _ _ _ _ c.make_round-last.ensures.round_made c.if-last.false c.make_round-last.ensures.same_length.0 c.make_round-last.ensures.same_length.1 c.make_round-last.ensures.same_length.2, c.make_round-last.ensures.same_length.3 ∙ l.invariant.2)

pub returns : goal.returns
returns c = let l = c.loop-made in
    let i = l.invariant.1 in
    let e : l.made ≡ c.args.limit = omega arith in
    record { ran = rw e at (ran_spent (plan_with c.args.plan.now c.args.horizon) (with_well_formed _ c.requires.ready.accepted _ c.requires.ready.horizon_far) c.args.first.now c.requires.ready.long_first c.args.second.now l.made l.first l.second i.held c.args.limit (omega arith)); same_length = (i.lists_length, i.counts_length, i.notes_length) }
