-- A point of each row.
use native.Mathlib.Omega.{arith}
use borrow.Author.Rules.{rules}
use Rattle.std.proofs.iter.Serving.{serving}
use Rattle.plan.specs.Layout.{plan_of}
use Rattle.plan.proofs.Ranges.{accepted_well_formed, accepted_bounded}
use Rattle.plan.proofs.Chains.{fold_from_range}
use Rattle.rounds_points.proofs.Gathering.{has_all}
use Rattle.rounds_points.proofs.Folding.{serves_below, with_point, has_fold}
use Rattle.rounds_points.proofs.concern.observers.Goals as goal

pub fold-requires-clause-callable : goal.fold-requires-clause-callable
fold-requires-clause-callable c = serves_below (λ f a x b f' k. search rules) _ _ _ (λ b x h. let inside = (accepted_well_formed c.args.plan.now c.requires).observer_in x (omega (arith, c.propositions.ensures.0)) in
    let few = (accepted_bounded c.args.plan.now c.requires).points_in in
    grind (serving, arith))

pub returns : goal.returns
returns c = let f = (plan_of c.args.plan.now).observer in
    has_all f c.propositions.result _ c.fold.result c.propositions.ensures.0 (rw (fold_from_range (with_point f) (λ b x d q k. search rules) c.fold.ensures.ran) (has_fold f c.propositions.result _))
