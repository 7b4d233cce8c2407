-- `rules_ground::search::Search::find_pair` meets its contract: a cell that holds no line is no parent, and what the rule gives from the two lines is tested.
use Rattle.rules_ground.proofs.AnswerLaws.{answer, no_answer}
use Rattle.rules_ground.proofs.ParentLaws.{holding, empty_first, pair_grounds, pair_fails}
use Rattle.rules_ground.proofs.search.Search.find_pair.Goals as goal

pub returns-then-not-holds_line : goal.returns-then-not-holds_line
returns-then-not-holds_line c = let p = c.requires.at_first in no_answer (empty_first _ _ _ _ _ _ _ (c.holds_line.ensures _ c.args.self.now.width_is) c.if-not-holds_line.true)

pub returns-then-not-gives_with : goal.returns-then-not-gives_with
returns-then-not-gives_with c = no_answer (pair_fails _ _ _ _ _ _ _ _ (c.line_at-first.ensures.is_line _ c.args.self.now.framed) c.gives_with.ensures c.if-not-gives_with.true)

pub returns : goal.returns
returns c =
    let holds = holding _ _ _ _ (c.holds_line.ensures _ c.args.self.now.width_is) c.if-not-holds_line.false in
    answer (pair_grounds _ _ _ _ _ _ _ _ c.requires.at_first.row c.requires.at_first.inside holds c.requires.second_in (c.line_at-first.ensures.is_line _ c.args.self.now.framed) c.gives_with.ensures c.if-not-gives_with.false)
