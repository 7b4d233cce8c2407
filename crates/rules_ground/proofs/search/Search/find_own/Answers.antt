-- `rules_ground::search::Search::find_own` meets its contract: an accepted plan has at most four propositions.
use native.Mathlib.Omega.{arith}
use Rattle.plan.proofs.Ranges.{sizes_few}
use Rattle.rules_ground.proofs.search.Search.find_own.Goals as goal

pub own_row-requires : goal.own_row-requires
own_row-requires c = omega (arith, (sizes_few _ c.args.self.now.accepted).1, c.requires)
