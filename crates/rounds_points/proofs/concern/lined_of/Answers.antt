-- Points with lines, those that changed where no giver did, and all of them where one did.
use mathlib.Core.Path.{sym, ◌∙◌}
use native.Mathlib.Omega.{arith}
use lib.Bits.{and_le_l}
use Rattle.std.proofs.lemmas.Bool.{eqb-true}
use Rattle.rounds_points.proofs.PointSets.{in_both, apart}
use Rattle.rounds_points.proofs.concern.lined_of.Goals as goal

pub returns-then-is_empty : goal.returns-then-is_empty
returns-then-is_empty c = let a = c.args in rw c.intersection-then-is_empty.ensures (record {
  below = omega (arith, and_le_l a.lined a.changed);
  lined_in = λ x h k. in_both a.lined a.changed x h k;
  given_in = λ x y h k l. absurd (apart a.changed a.givers y (sym c.intersection.ensures ∙ eqb-true _ _ (sym c.is_empty.ensures ∙ c.if-is_empty.true)) k l);
})
