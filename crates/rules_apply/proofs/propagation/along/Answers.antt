-- `rules_apply::propagation::along` meets its contract: four digits tell whether p are plain, of the joined label too.
use native.Mathlib.Omega.{arith}
use Rattle.std.proofs.lemmas.Grind.{common_steps}
use Rattle.plan.proofs.LabelLaws.{plain_more, join_lt}
use Rattle.rules_apply.proofs.propagation.along.Goals as goal

pub is_plain-requires-then-is_plain : goal.is_plain-requires-then-is_plain
is_plain-requires-then-is_plain c = (c.requires.0, rw (c.join-label.ensures 4 c.requires.1 c.requires.2) (join_lt 4 _ _))

pub returns : goal.returns
returns c = λ p few a b.
    let joined = c.join-label.ensures p a b in
    grind (arith, common_steps, plain_more p 4 _ few b, plain_more p 4 c.join-label.result few (rw joined (join_lt p _ _)), joined)
