-- The loop's invariant: the steps of the edges before the one that the walk is at are made, and the part is the same beside.
use Rattle.rules_listed.specs.Parts.{SamePart}
use Rattle.rules_refill.proofs.EdgeWalk.{Walked, edges_left}
use Rattle.rules_refill.proofs.refill.Refill.fill_edges.Given as goal

abbrev pub invariant-loop-at : goal.invariant-loop-at
invariant-loop-at l = Walked l.self.plan.now l.self.horizon l.self.table.first.now l.initial.part.point l.initial.part.cells.now l.at l.part.cells.now × SamePart l.initial.part l.part

abbrev pub decreases-loop-at : goal.decreases-loop-at
decreases-loop-at l = edges_left l.self.plan.now l.at
