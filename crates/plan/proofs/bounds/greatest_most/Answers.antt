use Rattle.std.proofs.Common.{rules, ◌∙◌, ap, ◌<◌}
use Rattle.plan.specs.Layout.{plan_of, greatest, most_at}
use Rattle.plan.proofs.Chains.{fold_from_range, kept_by_fold}
use Rattle.plan.proofs.Greatest.{greatest_lem}
use Rattle.plan.proofs.bounds.greatest_most.Goals as goal

pub returns : goal.returns
unfolding plan_of
returns c = (
  fold_from_range _ (λ m i r q k. search rules) c.fold.ensures.ran ∙ greatest_lem (most_at c.args.plan.now) c.links.result ∙ ap (greatest (most_at c.args.plan.now)) c.links.ensures.0,
  kept_by_fold (λ m. m < 65536) (search rules) (λ m i r q j k. search rules) c.fold.ensures.ran,
)
