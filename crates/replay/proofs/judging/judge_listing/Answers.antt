-- `replay::judging::judge_listing` meets its contract: where all lines follow the last one is in range.
use mathlib.Core.Path.{sym}
use native.Mathlib.Omega.{arith}
use Rattle.replay.proofs.JudgeLaws.{judged_in}
use Rattle.replay.proofs.judging.judge_listing.Goals as goal

pub judge_last-requires : goal.judge_last-requires
judge_last-requires c = let m = c.line_count-m in
    judged_in _ _ _ _ _ c.head_line.ensures.value (sym c.in_ok-judge_lines.ensures) (omega (arith, m.ensures.0))
