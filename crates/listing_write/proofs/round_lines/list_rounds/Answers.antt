-- The loop's invariant: the rounds made are listed.
use mathlib.Core.Path.{◌≡◌, subst}
use Prim.Native.Nat.{ℕ}
use native.Mathlib.Omega.{arith}
use Rattle.plan.specs.Layout.{plan_of}
use Rattle.listing_write.specs.RoundLines.{RoundsListed}
use Rattle.listing_write.proofs.RoundLaws.{none_listed, rounds_start, rounds_ready, rounds_room, rounds_more}
use Rattle.listing_write.proofs.round_lines.list_rounds.Goals as goal

pub loop-made-init : goal.loop-made-init
loop-made-init c = (omega arith, none_listed (plan_of c.args.plan.now), rounds_start c.args.plan.now c.args.marks.now c.args.horizon c.args.first.now c.args.second.now c.args.index.now c.args.out.now c.args.m c.args.rounds c.requires)

pub list_round-at-requires : goal.list_round-at-requires
list_round-at-requires c = let l = c.loop-made in
    record { ready = rounds_ready c.args.plan.now c.args.marks.now c.args.horizon c.args.first.now c.args.second.now c.args.index.now c.args.out.now c.args.m c.args.rounds c.requires l.made l.at l.first l.second l.index l.out l.invariant.1 l.invariant.2 (omega arith); room = rounds_room c.args.plan.now c.args.marks.now c.args.horizon c.args.first.now c.args.second.now c.args.index.now c.args.out.now c.args.m c.args.rounds c.requires l.made l.at l.first l.second l.index l.out l.invariant.1 l.invariant.2 (omega arith) }

pub loop-made-preserved : goal.loop-made-preserved
loop-made-preserved c = let r = c.list_round-at in
    let l = c.loop-made in
    let z = rounds_more c.args.plan.now c.args.marks.now c.args.horizon c.args.first.now c.args.second.now c.args.index.now c.args.out.now c.args.m c.args.rounds c.requires l.made l.at l.first l.second l.index l.out l.invariant.1 l.invariant.2 r.result _ _ _ _ r.ensures.value r.ensures.lists_round in
    (omega arith, z.0, z.1)

pub shape_of-first : goal.shape_of-first
shape_of-first c = c.loop-made.invariant.2.first_length

pub shape_of-second : goal.shape_of-second
shape_of-second c = c.loop-made.invariant.2.second_length

pub shape_of-index : goal.shape_of-index
shape_of-index c = c.loop-made.invariant.2.index_length

pub shape_of-out : goal.shape_of-out
shape_of-out c = c.loop-made.invariant.2.written.as_long

pub returns : goal.returns
returns c = let l = c.loop-made in
    let e : l.made ≡ c.args.rounds = omega arith in
    subst (λ (r : ℕ). RoundsListed (plan_of c.args.plan.now) r c.args.first.now c.args.second.now c.args.index.now c.args.out.now l.first l.second l.index l.out) e l.invariant.2
