-- `rules_ground::search::Search::find_by` meets its contract: the loop's invariant is that no place passed within the mask has a first parent.
use Prim.Native.Nat.{◌+◌, ◌-◌, ◌*◌}
use Rattle.rules_ground.specs.Searching.{the_plan, FirstAt}
use Rattle.rules_ground.proofs.AnswerLaws.{Passed}
use Rattle.rules_ground.proofs.search.Search.find_by.Given as goal

abbrev pub invariant-loop-t : goal.invariant-loop-t
invariant-loop-t l = Passed (λ t. FirstAt (the_plan l.self) l.self.table.now l.self.line l.by (l.row.first * l.self.width + t)) l.mask l.self.width l.t

abbrev pub decreases-loop-t : goal.decreases-loop-t
decreases-loop-t l = l.self.width - l.t
