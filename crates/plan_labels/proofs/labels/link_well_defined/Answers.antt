-- `plan_labels::labels::link_well_defined` meets its contract: both labels are read and compared.
use Rattle.plan.specs.Refusal.{link_well_defined}
use Rattle.plan_labels.proofs.labels.link_well_defined.Goals as goal

pub returns : goal.returns
unfolding link_well_defined
returns c = simp (← c.link_activation-a.ensures.0, ← c.link_finish-c.ensures.0, ← c.point_label.ensures.0, ← c.point_label-2.ensures.0)
