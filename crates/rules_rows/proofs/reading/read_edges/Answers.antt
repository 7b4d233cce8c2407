-- Each turn reads one edge more, which becomes the first of its point.
use Prim.Native.Nat.{◌-◌}
use native.Mathlib.Omega.{arith}
use lib.ListN.{length-set}
use Rattle.plan.proofs.Ranges.{accepted_bounded, accepted_well_formed}
use Rattle.rules_rows.proofs.RowLaws.{one_edge_read}
use Rattle.rules_rows.proofs.reading.read_edges.Goals as goal

pub bounds-first-x : goal.bounds-first-x
bounds-first-x c = omega (arith, (rw c.new-rows.ensures at c.from-x.ensures.0), (accepted_bounded _ c.requires.0).points_in, (accepted_well_formed _ c.requires.0).from_in (c.loop-i.i - 1) (omega arith))

pub read_edge-requires : goal.read_edge-requires
read_edge-requires c = omega (arith, (accepted_bounded _ c.requires.0).edges_in)

pub bounds-read-i : goal.bounds-read-i
bounds-read-i c = omega (arith, (accepted_bounded _ c.requires.0).edges_in)

pub bounds-first-x-in-loop-i : goal.bounds-first-x-in-loop-i
bounds-first-x-in-loop-i c = omega (arith, (rw c.new-rows.ensures at c.from-x.ensures.0), (accepted_bounded _ c.requires.0).points_in, (accepted_well_formed _ c.requires.0).from_in (c.loop-i.i - 1) (omega arith))

pub loop-i-init : goal.loop-i-init
loop-i-init c = (c.told-first, c.told-read, rw c.edges-i.ensures.0 c.requires.1)

pub loop-i-preserved : goal.loop-i-preserved
loop-i-preserved c = let l = c.loop-i.invariant in
    (simp length-set l.0, simp length-set l.1, one_edge_read _ c.requires.0 _ c.loop-i-test.true (omega arith) _ _ l.0 l.1 l.2 _ (rw c.new-rows.ensures at c.from-x.ensures.0) _ (rw c.new-rows.ensures at c.read_edge.ensures))
