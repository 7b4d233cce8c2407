-- The proposition's number fits a byte, and there are at most four.
use native.Mathlib.Omega.{arith}
use Rattle.plan.proofs.Ranges.{proposition_byte, accepted_bounded}
use Rattle.rules_fill.proofs.rows.literal_row.Goals as goal

pub observer-requires : goal.observer-requires
observer-requires c = proposition_byte c.args.plan.now c.requires.0 _ c.requires.1

pub digit_mask-requires : goal.digit_mask-requires
digit_mask-requires c = omega (arith, (accepted_bounded c.args.plan.now c.requires.0).propositions_in)

pub digit_bit-requires : goal.digit_bit-requires
digit_bit-requires c = omega (arith, (accepted_bounded c.args.plan.now c.requires.0).propositions_in)
