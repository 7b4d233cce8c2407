-- `rules_ground::search::Search::find_with_one` meets its contract: the rule takes its weight from the first parent's wait, and ignores the second.
use native.Mathlib.Omega.{arith}
use Rattle.rules_ground.proofs.AnswerLaws.{no_answer, answers_more}
use Rattle.rules_ground.proofs.ParentLaws.{light_first, other_first, second_start}
use Rattle.rules_ground.proofs.SearchedLaws.{cell_in, first_cell}
use Rattle.rules_ground.proofs.search.Search.find_with_one.Goals as goal

pub overflow_mul-c : goal.overflow_mul-c
overflow_mul-c c = omega (arith, first_cell c.args.self.now _ _ c.requires.0.by_row _ c.requires.0.place_in)

pub overflow_add-c : goal.overflow_add-c
overflow_add-c c = omega (arith, first_cell c.args.self.now _ _ c.requires.0.by_row _ c.requires.0.place_in)

pub cell_at-requires : goal.cell_at-requires
cell_at-requires c = cell_in c.args.self.now _ (first_cell c.args.self.now _ _ c.requires.0.by_row _ c.requires.0.place_in).0

pub returns-then-wait-row : goal.returns-then-wait-row
returns-then-wait-row c = let row = c.requires.0.by_row.row_is in
    no_answer (light_first _ _ _ _ c.args.by c.requires.1 _ _ _ c.cell_at.ensures.0 row.up_is row.down_is c.if-wait-row.true)

pub returns-then-wait-row-2 : goal.returns-then-wait-row-2
returns-then-wait-row-2 c = let row = c.requires.0.by_row.row_is in
    no_answer (other_first _ _ _ _ c.args.by c.requires.1 _ _ _ c.cell_at.ensures.0 row.up_is row.down_is c.if-wait-row-2.true)

pub find_pair-requires : goal.find_pair-requires
find_pair-requires c = let p = c.requires.0 in
    let h = first_cell c.args.self.now _ _ p.by_row _ p.place_in in
    record { at_first = record { row = p.by_row.in_plan; inside = h.0 }; second_in = omega (arith, h) }

pub returns : goal.returns
returns c = answers_more _ (second_start _ _ _ _ c.args.by c.requires.1) c.find_pair.ensures
