-- The loop's invariant: the first table holds the table of the rounds made, and the count is the last line and theirs.
use mathlib.Core.Path.{refl, ◌∙◌}
use native.Mathlib.Omega.{arith}
use Rattle.plan.specs.Layout.{plan_of}
use Rattle.listing_write.proofs.ExactTables.{exact_on}
use Rattle.listing_write.proofs.CountLaws.{reached_none, reached_few, reached_all, reached_more, reached_room}
use Rattle.listing_write.proofs.counting.count_rounds.Goals as goal

pub loop-made-init : goal.loop-made-init
loop-made-init c = (omega arith, reached_none (plan_of c.args.plan.now) c.args.first.now c.requires.first_is, refl, refl)

pub count_round-lines-requires : goal.count_round-lines-requires
count_round-lines-requires c = let l = c.loop-made in
    let P = plan_of c.args.plan.now in
    (exact_on _ _ _ _ _ c.requires.exact _ _ l.invariant.2 l.invariant.3, reached_room c.args.plan.now c.requires.exact.accepted c.args.rounds c.requires.breaks l.made l.lines l.first (omega arith) l.invariant.1, reached_few P l.made l.lines l.first l.invariant.1)

pub loop-made-preserved : goal.loop-made-preserved
loop-made-preserved c = let n = c.count_round-lines in
    let l = c.loop-made in
    (omega arith, reached_more (plan_of c.args.plan.now) l.made l.lines l.first l.invariant.1 _ _ n.ensures.value n.ensures.first_value, n.ensures.same_length ∙ l.invariant.2, n.ensures.same_length_2 ∙ l.invariant.3)

pub shape_of-first : goal.shape_of-first
shape_of-first c = c.loop-made.invariant.2

pub shape_of-second : goal.shape_of-second
shape_of-second c = c.loop-made.invariant.3

pub returns : goal.returns
returns c = let l = c.loop-made in
    let t = reached_all (plan_of c.args.plan.now) l.made l.lines l.first l.invariant.1 c.args.rounds (omega arith) in
    record { value = t.count_is; first_value = t.table_is; same_length = l.invariant.2; same_length_2 = l.invariant.3 }
