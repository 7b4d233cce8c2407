-- Too many rounds, too many lines, too short an output, or the listing.
use mathlib.Core.Path.{◌≡◌}
use mathlib.Core.Bool.{true}
use Prim.Native.Nat.{◌+◌, ◌*◌, ◌≤◌}
use native.Mathlib.Omega.{arith}
use lib.ListN.{length}
use Rattle.plan.specs.Layout.{plan_of}
use Rattle.listing.specs.ListOutcomes.{too_long}
use Rattle.listing.proofs.AnswerLaws.{listing_bytes, many_counted, few_counted, no_room, has_room, many_rounds, answered_seven, answered_broken}
use Rattle.listing.proofs.answering.list_broken.Goals as goal
use Rattle.listing.proofs.answering.list_broken.Goals.{then-m-gt-MOST-via-then-m-gt-MOST, then-m-gt-MOST-via-else-m-gt-MOST+then-out-m}

pub returns-then-r-gt-MOST_ROUNDS-clause-answered : goal.returns-then-r-gt-MOST_ROUNDS-clause-answered
returns-then-r-gt-MOST_ROUNDS-clause-answered c =
    answered_seven c.args.plan.now c.args.index.now c.args.out.now c.args.r (many_rounds c.args.plan.now c.args.r (length c.args.out.now) c.requires.tables.accepted c.requires.tables.breaks c.if-r-gt-MOST_ROUNDS.true)

pub returns-then-m-gt-MOST-clause-answered : goal.returns-then-m-gt-MOST-clause-answered
returns-then-m-gt-MOST-clause-answered c = let n = c.lines_of-m in
    let P = plan_of c.args.plan.now in
    let room = length c.args.out.now in
    let long : too_long P c.args.r room ≡ true =
    elim c.then-m-gt-MOST.branch [
      | then-m-gt-MOST-via-then-m-gt-MOST w ↦ many_counted P c.args.r room n.result n.ensures.value w.if-m-gt-MOST.true
      | then-m-gt-MOST-via-else-m-gt-MOST+then-out-m w ↦ no_room P c.args.r room n.result n.ensures.value w.if-m-gt-MOST.false w.if-out-m.true
    ] in
    answered_seven c.args.plan.now c.args.index.now c.args.out.now c.args.r long

pub returns-clause-answered : goal.returns-clause-answered
returns-clause-answered c = let n = c.lines_of-m in
    let P = plan_of c.args.plan.now in
    let room = length c.args.out.now in
    let few : n.result ≤ 4096 = omega (arith, c.if-m-gt-MOST.false) in
    answered_broken c.args.plan.now c.args.index.now c.args.out.now c.args.r (2 + 14 * n.result) _ _ (has_room P c.args.r room n.result n.ensures.value few (omega (arith, c.if-out-m.false))) (listing_bytes P c.args.r n.result (few_counted P c.args.r room n.result n.ensures.value few)) c.write_out.ensures.listing_left
