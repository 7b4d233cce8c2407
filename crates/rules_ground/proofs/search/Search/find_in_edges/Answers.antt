-- `rules_ground::search::Search::find_in_edges` meets its contract: where nothing is found, no edge gives the line.
use borrow.Author.Rules.{rules}
use Rattle.rules_ground.proofs.AnswerLaws.{among_answers}
use Rattle.rules_ground.proofs.search.Search.find_in_edges.Goals as goal

pub returns : goal.returns
returns c = among_answers _ c.edges-n.ensures.0 (λ x o q h. search rules) c.find_map.ensures.runs
