-- The loop's invariant: the entries of the points passed are in the log, as far as it is long.
use mathlib.Core.Path.{◌≡◌, refl, sym, ◌∙◌}
use Prim.Native.Nat.{◌<◌}
use native.Mathlib.Omega.{arith}
use lib.Seq.{length-take-le, get_or-take}
use Rattle.std.proofs.lemmas.Bool.{eqb-true}
use Rattle.rounds_tables.proofs.RoundLaws.{row_within}
use Rattle.rounds_tables.proofs.LogLaws.{logged_empty, grew_start, grew_point, grew_unnoted, grew_as, round_logged}
use Rattle.rounds_tables.proofs.logging.log_round.Goals.{then-raised-ne0, else-raised-ne0}
use Rattle.rounds_tables.proofs.logging.log_round.Goals as goal

pub returns-then-is_empty : goal.returns-then-is_empty
returns-then-is_empty c = record { by_index = λ es l. logged_empty _ _ _ (eqb-true _ _ (sym c.is_empty.ensures ∙ c.if-is_empty.true)) (omega arith); upper_bound = omega arith; same_length = refl }

pub loop-x-init : goal.loop-x-init
loop-x-init c = (omega arith, refl, grew_start _ _ _ _ _ (omega arith))

pub log_point-end-requires : goal.log_point-end-requires
log_point-end-requires c = let row = row_within c.loop-x.x c.args.points c.args.width (omega (arith, length-take-le c.args.points c.args.noted.now c.requires.noted_long)) in
    record { narrow = omega arith; long_first = omega arith; long_second = omega arith; at_in = c.loop-x.invariant.2.at_in }

pub loop-x-preserved : goal.loop-x-preserved
loop-x-preserved c =
    let i = c.loop-x.invariant in
    let inside : c.loop-x.x < c.args.points = omega (arith, length-take-le c.args.points c.args.noted.now c.requires.noted_long) in
    let read = get_or-take c.args.points c.args.noted.now c.loop-x.x 0 inside in
    elim c.if-raised-ne0.branch [
      | then-raised-ne0 w ↦ let r = grew_as _ _ _ _ _ _ _ _ w.log-is w.end-is (w.log_point-end.ensures.same_length ∙ i.1) (grew_point _ _ _ _ _ _ _ _ _ _ i.2 w.log_point-end.ensures.log_grew) in (omega (arith, inside), r.0, r.1)
      | else-raised-ne0 w ↦ let r = grew_as _ _ _ _ _ _ _ _ w.log-is w.end-is i.1 (grew_unnoted _ _ _ _ _ _ _ _ (λ t h. c.requires.unnoted c.loop-x.x t inside h (rw read at w.if-raised-ne0.false)) i.2) in (omega (arith, inside), r.0, r.1)
    ]

pub push-requires : goal.push-requires
push-requires c = c.loop-x.invariant.2.at_in

pub returns : goal.returns
returns c = let e : c.loop-x.x ≡ c.args.points = omega (arith, length-take-le c.args.points c.args.noted.now c.requires.noted_long) in
    record { by_index = round_logged _ _ _ _ _ _ _ _ _ (rw e at c.loop-x.invariant.2) c.push.ensures.by_index; upper_bound = c.push.ensures.upper_bound; same_length = c.push.ensures.same_length ∙ c.loop-x.invariant.1 }
