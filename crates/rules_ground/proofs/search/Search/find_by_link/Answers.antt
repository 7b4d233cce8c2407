-- `rules_ground::search::Search::find_by_link` meets its contract: where no rule gives the line at its activation, at its end or by rule 4, the link does not.
use Rattle.rules_ground.proofs.AnswerLaws.{or_answers}
use Rattle.rules_ground.proofs.search.Search.find_by_link.Goals as goal

pub returns : goal.returns
returns c = or_answers _ c.in_default.ensures.tells (or_answers _ c.in_default-find_at_finish.ensures.tells c.find_by.ensures)
