-- `rules_ground::search::Search::find_any` meets its contract: a ground is by a row of one of the four kinds.
use Rattle.rules_ground.proofs.WholeLaws.{tells_all}
use Rattle.rules_ground.proofs.search.Search.find_any.Goals as goal

pub returns : goal.returns
returns c = tells_all _ _ _ _ c.in_default.ensures.tells c.in_default-find_in_horizon_edges.ensures.tells c.in_default-find_in_links.ensures.tells c.find_in_propositions.ensures
