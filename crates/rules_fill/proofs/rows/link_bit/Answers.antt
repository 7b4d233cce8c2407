-- A shift of 1 is a power of 2, and the places of an accepted plan are few.
use native.Mathlib.Omega.{arith}
use Prim.Native.Nat.{◌+◌, ◌*◌}
use Rattle.plan.specs.Layout.{plan_of}
use Rattle.plan.proofs.Widths.{shift}
use Rattle.plan.proofs.Ranges.{accepted_bounded, link_byte}
use Rattle.rules_fill.specs.Shapes.{link_bit}
use Rattle.rules_fill.proofs.rows.link_bit.Goals as goal

pub overflow_add-result : goal.overflow_add-result
overflow_add-result c = omega (arith, link_byte c.args.plan.now c.requires.0 c.args.i c.requires.1)

pub overflow_shl-result : goal.overflow_shl-result
overflow_shl-result c = let d = accepted_bounded c.args.plan.now c.requires.0 in omega (arith, d.links_in, d.propositions_in)

pub returns : goal.returns
unfolding link_bit
returns c = let d = accepted_bounded c.args.plan.now c.requires.0 in
    shift _ (2 * (plan_of c.args.plan.now).propositions + c.args.i) (omega (arith, d.links_in, d.propositions_in)) (omega arith)
