-- `rules_apply::propagation::apply_upper` meets its contract: four digits tell whether the plan's are plain.
use native.Mathlib.Omega.{arith}
use Rattle.std.proofs.lemmas.Grind.{common_steps}
use Rattle.plan.proofs.LabelLaws.{plain_more}
use Rattle.rules_apply.proofs.propagation.apply_upper.Goals as goal

pub returns : goal.returns
returns c = grind (arith, common_steps, plain_more _ _ _ c.requires.2.few c.requires.2.in_labels.label_in)
