-- The loop's invariant: the raised cells passed have the numbers of their lines.
use mathlib.Core.Path.{◌≡◌, refl, ap, ◌∙◌}
use Prim.Native.Nat.{ℕ, ◌+◌}
use native.Mathlib.Omega.{arith}
use lib.ListN.{length}
use Rattle.plan.specs.Plan.{cells}
use Rattle.plan.specs.Layout.{plan_of}
use Rattle.listing_lines.specs.Listed.{raised_lines}
use Rattle.listing_write.proofs.IndexStores.{number_start, numbered_more, number_fits}
use Rattle.listing_write.proofs.index.number_cells.Goals as goal

pub overflow_add-i : goal.overflow_add-i
overflow_add-i c = omega (arith, c.points.ensures.1, c.requires.few)

pub loop-c-init : goal.loop-c-init
loop-c-init c = let s = c.args in
    let z = number_start (plan_of s.plan.now) s.first.now s.second.now s.at s.index.now in
    (omega arith, refl, ap (λ (n : ℕ). n + s.at) c.points.ensures.0 ∙ z.0, z.1)

pub number_cell-i-requires : goal.number_cell-i-requires
number_cell-i-requires c = let l = c.loop-c in
    let f = number_fits c.args.plan.now c.requires.accepted c.args.first.now c.args.second.now c.args.at l.c (omega (arith, c.requires.first_length, l.invariant.0)) c.requires.few in
    (omega (arith, c.requires.first_length), omega (arith, c.requires.first_length, c.requires.second_length), omega (arith, c.requires.first_length, c.requires.index_length, l.invariant.1), omega (arith, f, l.invariant.2))

pub loop-c-preserved : goal.loop-c-preserved
loop-c-preserved c = let l = c.loop-c in
    let P = plan_of c.args.plan.now in
    let k = c.number_cell-i in
    let z = numbered_more P c.args.first.now c.args.second.now c.args.at l.i k.result l.c c.args.index.now l.index _ l.invariant.2 (k.ensures.value P) l.invariant.3 (k.ensures.cell_numbered P (c.args.at + length (raised_lines P c.args.first.now c.args.second.now l.c)) (omega (arith, l.invariant.2)) (omega (arith, c.requires.first_length))) in
    (omega arith, k.ensures.same_length ∙ l.invariant.1, z.0, z.1)

pub shape_of-index : goal.shape_of-index
shape_of-index c = c.loop-c.invariant.1

pub returns : goal.returns
returns c = let l = c.loop-c in
    let e : l.c ≡ cells (plan_of c.args.plan.now) = omega (arith, c.requires.first_length, l.invariant.0) in
    record { numbers = rw (← e) l.invariant.3; same_length = l.invariant.1 }
