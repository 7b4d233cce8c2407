-- `replay::judging::replay` meets its contract: the plan, the layout, the lines.
use mathlib.Core.Path.{refl, sym, ◌∙◌}
use Rattle.replay.proofs.JudgeLaws.{number_passed, number_some, plan_refused, replayed}
use Rattle.replay.specs.Replaying.{replay}
use Rattle.replay.proofs.judging.replay.Goals as goal

pub returns-in_err-refusal : goal.returns-in_err-refusal
returns-in_err-refusal c =
    let e = number_passed c.from_residual.result c.in_err-refusal.field-0.0 c.from_residual.ensures.1 in
    replayed _ _ _ (plan_refused _ _ _ (e ∙ c.in_err-refusal.ensures) (λ z. number_some _ (sym e ∙ z)))

pub returns-then-not-laid_out : goal.returns-then-not-laid_out
unfolding replay
returns-then-not-laid_out c = replayed _ _ _ (rw (← c.in_ok-refusal.ensures, ← c.if-not-laid_out.ensures) refl)

pub returns : goal.returns
unfolding replay
returns c = replayed _ _ _ (rw (← c.in_ok-refusal.ensures, ← c.if-not-laid_out.ensures) c.judge_listing.ensures)
