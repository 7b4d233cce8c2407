-- The loop's invariant: the steps of the places passed are made, and the part is the same beside.
use mathlib.Core.Path.{◌∙◌}
use native.Mathlib.Omega.{arith}
use lib.Seq.{get_or-take, length-take-le}
use Rattle.rules_fill.proofs.StepLaws.{steps_none}
use Rattle.rules_fill.proofs.ShapeLaws.{done}
use Rattle.rules_listed.proofs.Going.{same_part, same_then}
use Rattle.rules_dense.proofs.GatherLaws.{spread_on}
use Rattle.rules_dense.proofs.gather.spread_part.Goals as goal

pub loop-z-init : goal.loop-z-init
loop-z-init c = (steps_none _ _, same_part _)

pub raise-requires : goal.raise-requires
raise-requires c = record { place_in = (rw c.loop-z.invariant.1.own (omega (arith, c.place.ensures.1, c.requires.room.0)), omega (arith, c.from.ensures, c.type_inv.wait)) }

pub loop-z-preserved : goal.loop-z-preserved
loop-z-preserved c = let g = c.loop-z.invariant in
    (spread_on _ _ _ _ _ _ _ _ _ g.0 c.place.ensures.0 (c.from.ensures ∙ get_or-take c.args.free.count c.args.given.now c.loop-z.z 0 (omega (arith, length-take-le c.args.free.count c.args.given.now c.requires.room.1))) c.raise.ensures.cells_value, same_then g.1 c.raise.ensures.same_part)

pub returns-clause-cells_value : goal.returns-clause-cells_value
returns-clause-cells_value c = done _ _ _ _ _ c.loop-z.invariant.0 (omega (arith, length-take-le c.args.free.count c.args.given.now c.requires.room.1))
