-- The round is filled, listed, numbered and copied.
use mathlib.Core.Path.{ap, ◌∙◌}
use mathlib.Core.List.{List}
use Prim.Native.Nat.{◌+◌}
use native.Mathlib.Omega.{arith}
use lib.ListN.{length}
use Rattle.plan.proofs.Ranges.{sizes_few}
use Rattle.rules.specs.declared.Line.{Line}
use Rattle.listing_write.proofs.ExactTables.{exact_ready, exact_room}
use Rattle.listing_write.proofs.RoundLaws.{ready_round, filled_lines, filled_room, round_listed}
use Rattle.listing_write.proofs.round_lines.list_round.Goals as goal

pub round-requires : goal.round-requires
round-requires c = record { ready = exact_ready _ _ _ _ _ c.requires.ready.exact; at_most = exact_room _ _ _ _ _ c.requires.ready.exact 4000000000 c.requires.ready.small }

pub list_cells-following-requires : goal.list_cells-following-requires
list_cells-following-requires c = record { made = ready_round c.args.plan.now c.args.marks.now c.args.horizon c.args.first.now c.args.second.now c.args.index.now c.args.out.now c.args.m c.args.at c.requires.ready _ c.round.ensures.second_value c.round.ensures.same_length; room = filled_room c.args.plan.now c.args.marks.now c.args.horizon c.args.first.now c.args.second.now c.args.index.now c.args.out.now c.args.m c.args.at c.requires.ready _ c.round.ensures.second_value c.round.ensures.same_length c.requires.room }

pub number_cells-requires : goal.number_cells-requires
number_cells-requires c = let d = c.requires.ready in
    record { accepted = d.exact.accepted; first_length = d.exact.first_length; second_length = c.round.ensures.same_length ∙ d.exact.second_length; index_length = d.numbers.sized; few = omega (arith, filled_room c.args.plan.now c.args.marks.now c.args.horizon c.args.first.now c.args.second.now c.args.index.now c.args.out.now c.args.m c.args.at c.requires.ready _ c.round.ensures.second_value c.round.ensures.same_length c.requires.room, d.listing.few) }

pub cells-end-requires : goal.cells-end-requires
cells-end-requires c = sizes_few c.args.plan.now c.requires.ready.exact.accepted

pub copy_cells-requires : goal.copy_cells-requires
copy_cells-requires c = let x = c.requires.ready.exact in
    let g = c.round.ensures.same_length ∙ x.second_length in
    (omega (arith, c.cells-end.ensures, g), omega (arith, c.cells-end.ensures, x.first_length))

pub returns : goal.returns
returns c = let e = c.cells-end in
    let q = filled_lines c.args.plan.now c.args.marks.now c.args.horizon c.args.first.now c.args.second.now c.args.index.now c.args.out.now c.args.m c.args.at c.requires.ready _ c.round.ensures.second_value c.round.ensures.same_length in
    record { value = c.list_cells-following.ensures.value ∙ ap (λ (x : List Line). c.args.at + length x) q; lists_round = round_listed c.args.plan.now c.args.marks.now c.args.horizon c.args.first.now c.args.second.now c.args.index.now c.args.out.now c.args.m c.args.at c.requires.ready _ c.round.ensures.second_value c.round.ensures.same_length _ _ e.result _ _ _ q e.ensures c.copy_cells.ensures.target_value c.copy_cells.ensures.same_length c.number_cells.ensures.same_length c.number_cells.ensures.numbers c.list_cells-following.ensures.appends }
