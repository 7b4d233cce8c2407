-- `rules_ground::search::Search::find_by_proposition` meets its contract: an accepted plan has at most four propositions.
use native.Mathlib.Omega.{arith}
use Rattle.plan.proofs.Ranges.{sizes_few}
use Rattle.rules_ground.proofs.search.Search.find_by_proposition.Goals as goal

pub literal_row-requires : goal.literal_row-requires
literal_row-requires c = omega (arith, (sizes_few _ c.args.self.now.accepted).1, c.requires)
