-- The loop's invariant: the steps of the links and propositions passed are made, and the part is the same beside.
use mathlib.Core.Path.{◌∙◌}
use native.Mathlib.Omega.{arith}
use Rattle.rules_fill.proofs.StepLaws.{steps_none}
use Rattle.rules_fill.proofs.ShapeLaws.{step_made, done}
use Rattle.rules_listed.proofs.Going.{same_part, same_then}
use Rattle.rules_refill.proofs.Removals.{removal_made, removals_whole}
use Rattle.rules_refill.proofs.Refills.{still_in}
use Rattle.rules_refill.proofs.refill.Refill.fill_removals.Goals as goal

pub loop-r-init : goal.loop-r-init
loop-r-init c = (steps_none _ _, same_part _)

pub single_in-requires : goal.single_in-requires
single_in-requires c = record { part_of = still_in c.requires.part_of c.loop-r.invariant.1; r_bound = omega (arith, c.loop-r-test.true, c.links.ensures.0, c.propositions.ensures.0) }

pub removal_in-requires : goal.removal_in-requires
removal_in-requires c = record { part_of = still_in c.requires.part_of (same_then c.loop-r.invariant.1 c.single_in.ensures.same_part); r_bound = omega (arith, c.loop-r-test.true, c.links.ensures.0, c.propositions.ensures.0) }

pub loop-r-preserved : goal.loop-r-preserved
loop-r-preserved c = let l = c.loop-r.invariant in
    let s = same_then l.1 c.single_in.ensures.same_part in (
      step_made _ _ _ _ _ l.0 (removal_made _ _ _ _ _ _ _ (rw l.1.point at c.single_in.ensures.cells_value) (rw s.point at c.removal_in.ensures.cells_value)),
      same_then s c.removal_in.ensures.same_part,
    )

pub returns-clause-cells_value : goal.returns-clause-cells_value
returns-clause-cells_value c = done _ _ _ _ _ c.loop-r.invariant.0 (omega (arith, c.loop-r-test.false, c.loop-r.auto.r-end, c.links.ensures.0, c.propositions.ensures.0)) ∙ removals_whole _ _ _ _
