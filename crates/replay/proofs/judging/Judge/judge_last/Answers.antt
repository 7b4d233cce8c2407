-- `replay::judging::Judge::judge_last` meets its contract: of a label of p digits all four digits are plain where the p are.
use mathlib.Core.Path.{◌≡◌, refl}
use mathlib.Core.Bool.{Bool, true, false, and-false}
use Prim.Native.Nat.{◌^◌, ◌≤◌, ◌<◌}
use borrow.Author.Rules.{rules}
use borrow.Author.Tests.{eq-eqb, ne_eqb}
use Rattle.plan.specs.Label.{plain}
use Rattle.plan.specs.Plan.{Plan}
use Rattle.plan.proofs.LabelLaws.{plain_more}
use Rattle.rules.specs.declared.Line.{Line}
use Rattle.replay.specs.Replaying.{judge_last}
use Rattle.replay.proofs.JudgeLaws.{propositions_few, label_byte}
use Rattle.replay.proofs.judging.Judge.judge_last.Goals as goal
use Rattle.replay.proofs.judging.Judge.judge_last.Goals.{else-l-eq0-via-then-l-eq0+else-is_plain, else-l-eq0-via-else-l-eq0}

module _ (P : Plan) (l : Line) where
  elsewhere_last : (l.point ≡ 0 → ⊥) → 11 ≡ judge_last P l
  unfolding judge_last
  elsewhere_last h = rw (ne_eqb l.point 0 h) refl

  module _ (r : Bool) (few : P.propositions ≤ 4) (label_in : l.label < 4 ^ P.propositions) (told : r ≡ plain 4 l.label) where
    unknown_last : r ≡ false → 11 ≡ judge_last P l
    unfolding judge_last
    unknown_last h = rw (← plain_more P.propositions 4 l.label few label_in, ← told, h, and-false) refl

    plain_last : l.point ≡ 0 → r ≡ true → 0 ≡ judge_last P l
    unfolding judge_last
    plain_last z h = rw (eq-eqb l.point 0 z, ← plain_more P.propositions 4 l.label few label_in, ← told, h) refl

pub is_plain-requires : goal.is_plain-requires
is_plain-requires c = let k = c.args.self.now.judging in search (rules, label_byte)

pub returns-then-is_plain : goal.returns-then-is_plain
returns-then-is_plain c = let k = c.args.self.now.judging in search (plain_last, propositions_few)

pub returns : goal.returns
returns c = let k = c.args.self.now.judging in
    elim c.else-l-eq0.branch [
      | else-l-eq0-via-then-l-eq0+else-is_plain w ↦ search (unknown_last, propositions_few)
      | else-l-eq0-via-else-l-eq0 w ↦ search elsewhere_last
    ]
