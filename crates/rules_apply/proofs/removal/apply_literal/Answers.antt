-- `rules_apply::removal::apply_literal` meets its contract: a label with a digit cleared is no greater.
use native.Mathlib.Omega.{arith}
use Rattle.std.proofs.lemmas.Grind.{common_steps}
use Rattle.plan.proofs.LabelLaws.{clear_le}
use Rattle.rules_apply.proofs.removal.apply_literal.Goals as goal

pub returns : goal.returns
returns c = grind (arith, common_steps, c.join.ensures _ (omega (arith, clear_le c.args.l.label c.args.j, c.clear_digit.ensures, c.requires.1.in_labels.label_in)) c.requires.2.label_in)
