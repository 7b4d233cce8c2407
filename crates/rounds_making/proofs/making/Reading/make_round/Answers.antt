-- The calls follow one another, each lent what the last one left.
use mathlib.Core.Path.{refl, ◌∙◌}
use Rattle.plan.proofs.Horizons.{with_well_formed}
use Rattle.rounds_making.proofs.RoundByRound.{to_fill_lends, filling, fill_lends, settle_lends, lined_lends, over_lends, stops_lends, round_ends}
use Rattle.rounds_making.proofs.making.Reading.make_round.Goals as goal

pub points_to_fill-set-requires : goal.points_to_fill-set-requires
points_to_fill-set-requires c = let s = c.args.self.now in
    let r = c.requires in
    let wf = with_well_formed _ r.ready.accepted _ r.ready.horizon_far in
    let t = to_fill_lends _ _ _ _ _ s.points_are s.dependents_are r.known.changed_in.below r.known.lined_in.below wf.two in
    (t.1, t.2, t.3)

pub next_round-requires : goal.next_round-requires
next_round-requires c = fill_lends (filling c.requires {rows = c.args.self.now.rows.now} _ c.args.self.now.rows_are c.args.self.now.numbers c.args.self.now.dependents_are c.args.self.now.givers_are c.args.self.now.points_are c.points_to_fill-set.ensures)

pub settle-changed-requires : goal.settle-changed-requires
settle-changed-requires c = rw c.union.ensures (settle_lends (filling c.requires {rows = c.args.self.now.rows.now} _ c.args.self.now.rows_are c.args.self.now.numbers c.args.self.now.dependents_are c.args.self.now.givers_are c.args.self.now.points_are c.points_to_fill-set.ensures) _ _ _ _ c.args.self.now.points_are c.next_round.ensures.second_value c.next_round.ensures.round_noted c.next_round.ensures.same_length.0 c.next_round.ensures.same_length.1)

pub stops-requires : goal.stops-requires
stops-requires c =
    let r = stops_lends (filling c.requires {rows = c.args.self.now.rows.now} _ c.args.self.now.rows_are c.args.self.now.numbers c.args.self.now.dependents_are c.args.self.now.givers_are c.args.self.now.points_are c.points_to_fill-set.ensures) _ _ _ _ c.args.self.now.points_are c.next_round.ensures.second_value c.next_round.ensures.round_noted c.next_round.ensures.same_length.0 _ _ _ _ _ c.settle-changed.ensures.after_settle c.settle-changed.ensures.same_length.3 c.settle-changed.ensures.same_length.0 in
    record { points_bound = r.0; same_outside = r.1 }

pub lined_after-lined-requires : goal.lined_after-lined-requires
lined_after-lined-requires c = lined_lends (filling c.requires {rows = c.args.self.now.rows.now} _ c.args.self.now.rows_are c.args.self.now.numbers c.args.self.now.dependents_are c.args.self.now.givers_are c.args.self.now.points_are c.points_to_fill-set.ensures) _ _ _ _ c.args.self.now.points_are c.next_round.ensures.second_value c.next_round.ensures.round_noted c.next_round.ensures.same_length.0 _ _ _ _ _ c.settle-changed.ensures.after_settle c.settle-changed.ensures.same_length.3

pub over_horizon-over-requires : goal.over_horizon-over-requires
over_horizon-over-requires c = over_lends (filling c.requires {rows = c.args.self.now.rows.now} _ c.args.self.now.rows_are c.args.self.now.numbers c.args.self.now.dependents_are c.args.self.now.givers_are c.args.self.now.points_are c.points_to_fill-set.ensures) _ _ _ _ c.args.self.now.points_are c.next_round.ensures.second_value c.next_round.ensures.round_noted c.next_round.ensures.same_length.0 _ _ _ _ _ c.settle-changed.ensures.after_settle c.settle-changed.ensures.same_length.3

pub returns : goal.returns
returns c = record { round_made = round_ends (filling c.requires {rows = c.args.self.now.rows.now} _ c.args.self.now.rows_are c.args.self.now.numbers c.args.self.now.dependents_are c.args.self.now.givers_are c.args.self.now.points_are c.points_to_fill-set.ensures) _ _ _ _ c.args.self.now.points_are c.next_round.ensures.second_value c.next_round.ensures.round_noted c.next_round.ensures.same_length.0 _ _ _ _ _ c.settle-changed.ensures.after_settle c.settle-changed.ensures.same_length.3 _ refl c.lined_after-lined.ensures c.over_horizon-over.ensures c.stops.ensures c.settle-changed.ensures.same_length.0; same_length = (c.settle-changed.ensures.same_length.2, c.settle-changed.ensures.same_length.3, c.next_round.ensures.same_length.1, c.settle-changed.ensures.same_length.1 ∙ c.next_round.ensures.same_length.2) }
