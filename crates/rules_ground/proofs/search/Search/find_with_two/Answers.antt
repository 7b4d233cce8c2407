-- `rules_ground::search::Search::find_with_two` meets its contract: the first parent waits long enough and has a bit to remove, and the second's place has the line's other bits.
use native.Mathlib.Omega.{arith}
use Prim.Native.Nat.{◌-◌}
use lib.Bits.{bit_and}
use Rattle.rules_ground.proofs.AnswerLaws.{no_answer, answers_more}
use Rattle.rules_ground.proofs.ParentLaws.{short_first}
use Rattle.rules_ground.proofs.SearchedLaws.{cell_in, first_cell, second_masked, second_inside, removed_in_row, second_in_row}
use Rattle.rules_ground.proofs.search.Search.find_with_two.Goals as goal

pub overflow_mul-c : goal.overflow_mul-c
overflow_mul-c c = omega (arith, first_cell c.args.self.now _ _ c.requires.0.by_row _ c.requires.0.place_in)

pub overflow_add-c : goal.overflow_add-c
overflow_add-c c = omega (arith, first_cell c.args.self.now _ _ c.requires.0.by_row _ c.requires.0.place_in)

pub cell_at-requires : goal.cell_at-requires
cell_at-requires c = cell_in c.args.self.now _ (first_cell c.args.self.now _ _ c.requires.0.by_row _ c.requires.0.place_in).0

pub returns-then-cell_at-self : goal.returns-then-cell_at-self
returns-then-cell_at-self c = no_answer (short_first _ _ _ _ c.args.by c.requires.1 _ c.cell_at.ensures.0 c.if-cell_at-self.true)

pub returns-then-own-eq0 : goal.returns-then-own-eq0
returns-then-own-eq0 c = no_answer (removed_in_row c.args.self.now _ _ c.requires.0.by_row c.requires.1 _ c.if-own-eq0.true)

pub overflow_mul-lo : goal.overflow_mul-lo
overflow_mul-lo c = omega (arith, second_inside c.args.self.now _ _ c.requires.0.by_row 0)

pub overflow_add-lo : goal.overflow_add-lo
overflow_add-lo c = let t = c.args.t in
    omega (arith, second_inside c.args.self.now _ _ c.requires.0.by_row (t - bit_and t c.args.row.removed))

pub find_second-requires : goal.find_second-requires
find_second-requires c = let p = c.requires.0 in
    let h = first_cell c.args.self.now _ _ p.by_row _ p.place_in in
    (record { at_first = record { row = p.by_row.in_plan; inside = h.0 }; takes = c.requires.1; down_is = p.by_row.row_is.down_is; down_small = p.by_row.row_is.down_small }, record { masked = second_masked c.args.self.now _ _ p.by_row _; inside = (second_inside c.args.self.now _ _ p.by_row _).0 })

pub returns : goal.returns
returns c = answers_more _ (second_in_row c.args.self.now _ _ c.requires.0.by_row c.requires.1 _) c.find_second.ensures
