-- A label is below 256, since it has no bit but the mask's.
use native.Mathlib.Omega.{arith}
use lib.Bits.{and_le_r}
use Rattle.rules_fill.specs.Shapes.{is_plain}
use Rattle.rules_fill.proofs.shapes.has_plain_label.Goals as goal

pub is_plain-requires : goal.is_plain-requires
is_plain-requires c = (c.requires.0, omega (arith, and_le_r c.args.place c.args.mask))

pub returns : goal.returns
unfolding is_plain
returns c = c.is_plain.ensures
