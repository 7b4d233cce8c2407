-- `replay::judging::Judge::judge_lines`: the lines passed follow.
use mathlib.Core.Path.{◌≡◌}
use Rattle.plan.specs.Layout.{plan_of}
use Rattle.replay.specs.Replaying.{judge_lines}
use Rattle.replay.proofs.judging.Judge.judge_lines.Given as goal

abbrev pub invariant-loop-i : goal.invariant-loop-i
invariant-loop-i l = judge_lines (plan_of l.self.plan.now) l.self.listing.bytes.now l.i ≡ 0
