-- `rules_ground::search::Search::find_second` meets its contract: the loop's invariant is that no cell passed within the mask is a second parent.
use Prim.Native.Nat.{◌+◌, ◌-◌}
use Rattle.rules_ground.specs.Searching.{the_plan, SecondAt}
use Rattle.rules_ground.proofs.AnswerLaws.{Passed}
use Rattle.rules_ground.proofs.search.Search.find_second.Given as goal

abbrev pub invariant-loop-v : goal.invariant-loop-v
invariant-loop-v l = Passed (λ v. SecondAt (the_plan l.self) l.self.table.now l.self.line l.by l.c (l.lo + v)) l.mask l.self.width l.v

abbrev pub decreases-loop-v : goal.decreases-loop-v
decreases-loop-v l = l.self.width - l.v
