-- `rules_ground::search::Search::find_second` meets its contract: the loop's invariant is that no cell passed within the mask is a second parent.
use native.Mathlib.Omega.{arith}
use Rattle.rules_ground.proofs.AnswerLaws.{no_answer, passed_more, passed_all}
use Rattle.rules_ground.proofs.SearchedLaws.{cell_from}
use Rattle.rules_ground.proofs.search.Search.find_second.Goals as goal

pub find_waiting-requires : goal.find_waiting-requires
find_waiting-requires c = (c.requires.0, (cell_from c.args.self.now _ _ _ c.requires.1.inside (c.loop-v.invariant.within (omega arith))).0)

pub loop-v-preserved : goal.loop-v-preserved
loop-v-preserved c = passed_more c.loop-v.invariant c.next_within-v.ensures c.in_default.ensures.tells

pub returns : goal.returns
returns c = no_answer (passed_all c.loop-v.invariant (omega arith) c.requires.1.masked.mask_in)
