-- The loop's invariant: the entries of the cells passed are in the log, as far as it is long.
use mathlib.Core.Path.{◌≡◌, refl, ◌∙◌}
use native.Mathlib.Omega.{arith}
use Rattle.rounds_tables.proofs.LogLaws.{grew_none, grew_cell}
use Rattle.rounds_tables.proofs.logging.log_point.Goals as goal

pub loop-t-init : goal.loop-t-init
loop-t-init c = (omega arith, refl, grew_none _ _ _ _ _ (omega arith))

pub log_cell-end-requires : goal.log_cell-end-requires
log_cell-end-requires c = record { low = omega arith; in_first = omega arith; in_second = omega arith; at_in = c.loop-t.invariant.2.at_in }

pub loop-t-preserved : goal.loop-t-preserved
loop-t-preserved c = let i = c.loop-t.invariant in
    (omega arith, c.log_cell-end.ensures.same_length ∙ i.1, grew_cell _ _ _ _ _ _ _ _ _ _ i.2 c.log_cell-end.ensures.log_grew)

pub returns : goal.returns
returns c = let l = c.loop-t in
    let e : l.t ≡ c.args.width = omega arith in
    record { log_grew = rw e at l.invariant.2; same_length = l.invariant.1 }
