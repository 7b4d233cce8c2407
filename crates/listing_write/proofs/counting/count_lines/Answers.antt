-- The first table's cells are cleared, so the rounds start from zeros; all rounds but the last are counted.
use mathlib.Core.Path.{◌∙◌}
use native.Mathlib.Omega.{arith}
use Rattle.plan.specs.Layout.{plan_of}
use Rattle.plan.proofs.Ranges.{sizes_few}
use Rattle.listing_write.proofs.ExactTables.{clear_exact, exact_on, breaks_after}
use Rattle.listing_write.proofs.CountLaws.{breaks_last, listing_counted, last_table, last_lent}
use Rattle.listing_write.proofs.counting.count_lines.Goals as goal

pub cells-end-requires : goal.cells-end-requires
cells-end-requires c = sizes_few c.args.plan.now c.requires.accepted

pub overflow_sub-r : goal.overflow_sub-r
overflow_sub-r c = omega (arith, breaks_after (plan_of c.args.plan.now) c.args.r c.requires.breaks)

pub count_rounds-lines-requires : goal.count_rounds-lines-requires
count_rounds-lines-requires c = let e = c.cells-end in
    let h = c.horizon-horizon in
    let m = c.plain_marks-marks in
    let P = plan_of c.args.plan.now in
    record { exact = record { accepted = c.requires.accepted; marked = m.ensures; horizon_is = h.ensures.0; first_length = c.clear_cells.ensures.same_length ∙ c.requires.first_length; second_length = c.requires.second_length }; breaks = breaks_last P c.args.r c.requires.breaks; first_is = clear_exact P e.result c.args.first.now _ e.ensures c.requires.first_length c.clear_cells.ensures.table_value }

pub count_round-requires : goal.count_round-requires
count_round-requires c = let e = c.cells-end in
    let h = c.horizon-horizon in
    let m = c.plain_marks-marks in
    let l = last_lent c.args.plan.now c.requires.accepted c.args.r c.requires.breaks c.count_rounds-lines.result _ c.count_rounds-lines.ensures.value c.count_rounds-lines.ensures.first_value in
    (exact_on _ _ _ _ _ (record { accepted = c.requires.accepted; marked = m.ensures; horizon_is = h.ensures.0; first_length = c.clear_cells.ensures.same_length ∙ c.requires.first_length; second_length = c.requires.second_length }) _ _ c.count_rounds-lines.ensures.same_length c.count_rounds-lines.ensures.same_length_2, l.0, l.1)

pub returns : goal.returns
returns c = let z = c.clear_cells in
    let P = plan_of c.args.plan.now in
    let r = c.args.r in
    let b = c.requires.breaks in
    record { value = listing_counted P r b _ c.count_rounds-lines.ensures.value; first_value = last_table P r b _ _ c.count_rounds-lines.ensures.first_value c.count_round.ensures.first_value; second_value = last_table P r b _ _ c.count_rounds-lines.ensures.first_value c.count_round.ensures.second_value; same_length = c.count_round.ensures.same_length ∙ c.count_rounds-lines.ensures.same_length ∙ z.ensures.same_length; same_length_2 = c.count_round.ensures.same_length_2 ∙ c.count_rounds-lines.ensures.same_length_2 }
