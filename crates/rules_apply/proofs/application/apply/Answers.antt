-- `rules_apply::application::apply` meets its contract: the rule is what the match found, and its row is one of at most four links or propositions.
use mathlib.Core.Path.{◌≡◌, subst}
use mathlib.Core.List.{List}
use Prim.Native.Nat.{ℕ, ◌<◌}
use native.Mathlib.Omega.{arith}
use Rattle.plan.specs.Layout.{plan_of}
use Rattle.plan.specs.Refusal.{Accepted}
use Rattle.plan.proofs.Ranges.{accepted_bounded}
use Rattle.rules.specs.declared.Rule.{Rule}
use Rattle.rules.specs.declared.Rule.TheVariants.{LowerCase, UpperCase, LetterRemoval, OwnLiteral, LiteralRemoval}
use Rattle.rules.specs.Derivations.{InPlan}
use Rattle.rules_apply.proofs.ApplyLaws.{in_byte}
use Rattle.rules_apply.proofs.application.apply.Goals as goal

module _ (bs : List ℕ) (by : Rule) (accepted : Accepted bs) (row : InPlan (plan_of bs) by) where
  lower_row : (i : ℕ) → by ≡ LowerCase i → i < 4
  lower_row i q = omega (arith, (accepted_bounded bs accepted).links_in, subst (InPlan (plan_of bs)) q row)

  upper_row : (i : ℕ) → by ≡ UpperCase i → i < 4
  upper_row i q = omega (arith, (accepted_bounded bs accepted).links_in, subst (InPlan (plan_of bs)) q row)

  letter_row : (i : ℕ) → by ≡ LetterRemoval i → i < 4
  letter_row i q = omega (arith, (accepted_bounded bs accepted).links_in, subst (InPlan (plan_of bs)) q row)

  own_row : (j : ℕ) → by ≡ OwnLiteral j → j < 4
  own_row j q = omega (arith, (accepted_bounded bs accepted).propositions_in, subst (InPlan (plan_of bs)) q row)

  literal_row : (j : ℕ) → by ≡ LiteralRemoval j → j < 4
  literal_row j q = omega (arith, (accepted_bounded bs accepted).propositions_in, subst (InPlan (plan_of bs)) q row)

ruleset rows = (lower_row, upper_row, letter_row, own_row, literal_row, in_byte)

pub apply_lower-requires : goal.apply_lower-requires
apply_lower-requires c = search rows

pub apply_upper-requires : goal.apply_upper-requires
apply_upper-requires c = search rows

pub apply_letter-requires : goal.apply_letter-requires
apply_letter-requires c = search rows

pub apply_own_literal-requires : goal.apply_own_literal-requires
apply_own_literal-requires c = search rows

pub apply_literal-requires : goal.apply_literal-requires
apply_literal-requires c = search rows
