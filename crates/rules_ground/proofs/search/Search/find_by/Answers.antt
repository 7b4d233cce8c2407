-- `rules_ground::search::Search::find_by` meets its contract: the loop's invariant is that no place passed within the mask has a first parent.
use native.Mathlib.Omega.{arith}
use Rattle.rules_ground.proofs.AnswerLaws.{no_answer, passed_more, passed_all}
use Rattle.rules_ground.proofs.SearchedLaws.{first_masked, first_in_row}
use Rattle.rules_ground.proofs.search.Search.find_by.Goals as goal

pub next_within-t-requires : goal.next_within-t-requires
next_within-t-requires c = record { masked = first_masked c.args.self.now _ _ c.requires; place_in = omega arith; within = c.loop-t.invariant.within (omega arith) }

pub loop-t-preserved : goal.loop-t-preserved
loop-t-preserved c = passed_more c.loop-t.invariant c.next_within-t.ensures c.in_default.ensures.tells

pub returns : goal.returns
returns c = no_answer (λ b. passed_all c.loop-t.invariant (omega arith) (first_masked c.args.self.now _ _ c.requires).mask_in (first_in_row c.args.self.now _ _ c.requires b))
