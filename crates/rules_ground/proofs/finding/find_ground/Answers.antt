-- `rules_ground::finding::find_ground` meets its contract: the rules give no line of a point that the plan does not have, and a line of another is looked for.
use native.Mathlib.Omega.{arith}
use Rattle.plan.proofs.Ranges.{accepted_well_formed}
use Rattle.rules_ground.proofs.ParentLaws.{no_point}
use Rattle.rules_ground.proofs.finding.find_ground.Goals as goal

pub returns-then-points-line : goal.returns-then-points-line
returns-then-points-line c = no_point _ _ _ (accepted_well_formed _ c.requires.accepted) (omega arith)

pub returns : goal.returns
returns c = rw (← c.new.ensures.0, ← c.new.ensures.1, ← c.new.ensures.2) c.find_any.ensures
