-- The links add to what the edges have added.
use mathlib.Core.Path.{◌∙◌}
use Rattle.plan.specs.Layout.{plan_of}
use Rattle.plan.proofs.Ranges.{accepted_well_formed}
use Rattle.rounds_points.proofs.Growing.{both_in}
use Rattle.rounds_points.proofs.concern.find_dependents.Goals as goal

pub returns : goal.returns
returns c = record { dependents = both_in (plan_of c.args.plan.now) c.args.sets.now _ _ (accepted_well_formed _ c.requires.0) c.depend_by_edges.ensures.edges_in c.depend_by_links.ensures.links_in; same_length = c.depend_by_links.ensures.same_length ∙ c.depend_by_edges.ensures.same_length }
