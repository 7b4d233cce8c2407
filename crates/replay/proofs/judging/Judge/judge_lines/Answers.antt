-- `replay::judging::Judge::judge_lines` meets its contract: the first line that does not follow decides, and the lines before one that is judged are in range.
use mathlib.Core.Path.{refl, sym, ◌∙◌}
use native.Mathlib.Omega.{arith}
use Rattle.replay.specs.Replaying.{judge_lines}
use Rattle.replay.proofs.JudgeLaws.{number_passed, number_some, one_follows, first_refused, judged_label}
use Rattle.replay.proofs.judging.Judge.judge_lines.Goals as goal

pub loop-i-init : goal.loop-i-init
unfolding judge_lines
loop-i-init c = refl

pub judge_line-requires : goal.judge_line-requires
judge_line-requires c = record { line_in = omega arith; labels_in = λ j. judged_label _ _ _ j c.loop-i.invariant }

pub returns-in_err-judge_line : goal.returns-in_err-judge_line
returns-in_err-judge_line c =
    let e = number_passed c.from_residual.result c.in_err-judge_line.field-0.0 c.from_residual.ensures.1 in
    first_refused _ _ _ _ _ c.loop-i.invariant (e ∙ c.in_err-judge_line.ensures) (λ z. number_some _ (sym e ∙ z)) c.loop-i-test.true

pub loop-i-preserved : goal.loop-i-preserved
loop-i-preserved c = one_follows _ _ _ c.loop-i.invariant (c.in_ok-judge_line.ensures)
