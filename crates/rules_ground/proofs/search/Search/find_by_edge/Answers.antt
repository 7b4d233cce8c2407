-- `rules_ground::search::Search::find_by_edge` meets its contract: an edge from another point gives no line of this one.
use Rattle.plan.proofs.Ranges.{edge_byte}
use Rattle.rules_ground.proofs.search.Search.find_by_edge.Goals as goal

pub from-requires : goal.from-requires
from-requires c = edge_byte _ c.args.self.now.accepted _ c.requires.edge_in
