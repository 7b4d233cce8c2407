-- The dependents of each changed point.
use native.Mathlib.Omega.{arith}
use borrow.Author.Rules.{rules}
use Rattle.std.proofs.iter.Serving.{serving}
use Rattle.std.proofs.lemmas.Grind.{get_or_default_zero}
use Rattle.rounds_points.proofs.PointSets.{point_below}
use Rattle.rounds_points.proofs.Folding.{serves_points, found_fold}
use Rattle.rounds_points.proofs.concern.dependents_of.Goals as goal

pub fold-requires-clause-callable : goal.fold-requires-clause-callable
fold-requires-clause-callable c = serves_points (λ f a x b f' k. search rules) _ _ _ (λ s r t k. k) _ (λ b x h. let inside = point_below c.args.changed c.args.n x (rw c.iter.ensures at h) c.requires.1 in let long = c.requires.0.long in let few = c.requires.0.few in grind (serving, arith))

pub returns : goal.returns
returns c = found_fold _ (λ s r t k. k) c.args.sets.now c.args.n c.args.changed c.requires.0 _ (λ a y b f' h k. let same = get_or_default_zero c.args.sets.now y in search (rules, same)) c.requires.1 _ c.iter.ensures _ (rw c.new.ensures at c.fold.ensures.ran)
