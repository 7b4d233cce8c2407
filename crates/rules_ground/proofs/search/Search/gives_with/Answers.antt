-- `rules_ground::search::Search::gives_with` meets its contract: a cell that holds no line gives nothing, and its line is the table's.
use Rattle.rules_ground.proofs.ParentLaws.{pair_empty, pair_tested}
use Rattle.rules_ground.proofs.search.Search.gives_with.Goals as goal

pub returns-then-not-holds_line : goal.returns-then-not-holds_line
returns-then-not-holds_line c = pair_empty _ _ _ _ _ _ _ (c.holds_line.ensures _ c.args.self.now.width_is) c.if-not-holds_line.true

pub returns : goal.returns
returns c = pair_tested _ _ _ _ _ _ _ _ _ (c.holds_line.ensures _ c.args.self.now.width_is) c.if-not-holds_line.false (c.line_at-second.ensures.is_line _ c.args.self.now.framed) c.gives_line.ensures
