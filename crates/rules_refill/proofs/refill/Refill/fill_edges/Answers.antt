-- The loop's invariant: the steps of the edges before the one that the walk is at are made, and the part is the same beside.
use mathlib.Core.Path.{sym, ◌∙◌}
use Rattle.rules_listed.proofs.Going.{same_part, same_then}
use Rattle.rules_refill.proofs.Refills.{lent_of, still_in}
use Rattle.rules_refill.proofs.EdgeWalk.{walk_begins, walk_at, walk_goes, walk_nears, walk_ends}
use Rattle.rules_refill.proofs.refill.Refill.fill_edges.Goals as goal

pub first_edge-at-requires : goal.first_edge-at-requires
first_edge-at-requires c = rw c.args.self.now.lent.rows_are (lent_of c.args.self.now c.requires.part_of).point_in

pub loop-at-init : goal.loop-at-init
loop-at-init c = (walk_begins _ _ _ _ _ _ (rw c.args.self.now.lent.rows_are at c.first_edge-at.ensures), same_part _)

pub edge_in-requires : goal.edge_in-requires
edge_in-requires c = let l = c.loop-at.invariant in
    let k = walk_at _ _ _ _ _ _ _ _ l.0 c.in-Some.is in
    record { part_of = still_in c.requires.part_of l.1; i_bound = (k.0, k.1 ∙ sym l.1.point) }

pub next_edge-at-requires : goal.next_edge-at-requires
next_edge-at-requires c = rw c.args.self.now.lent.rows_are (walk_at _ _ _ _ _ _ _ _ c.loop-at.invariant.0 c.in-Some.is).0

pub loop-at-smaller : goal.loop-at-smaller
loop-at-smaller c = walk_nears _ _ _ _ _ _ _ _ _ c.loop-at.invariant.0 c.in-Some.is (rw c.args.self.now.lent.rows_are at c.next_edge-at.ensures)

pub loop-at-preserved : goal.loop-at-preserved
loop-at-preserved c = let l = c.loop-at.invariant in
    (walk_goes _ _ _ _ _ _ _ _ _ _ l.0 c.in-Some.is c.edge_in.ensures.cells_value (rw c.args.self.now.lent.rows_are at c.next_edge-at.ensures), same_then l.1 c.edge_in.ensures.same_part)

pub returns-clause-cells_value : goal.returns-clause-cells_value
returns-clause-cells_value c = walk_ends _ _ _ _ _ _ _ c.loop-at.invariant.0 c.in_default.not-Some
