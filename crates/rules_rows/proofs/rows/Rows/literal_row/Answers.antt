-- There are at most four propositions.
use native.Mathlib.Omega.{arith}
use Rattle.plan.proofs.Ranges.{accepted_bounded}
use Rattle.rules_rows.proofs.rows.Rows.literal_row.Goals as goal

pub digit_mask-requires : goal.digit_mask-requires
digit_mask-requires c = omega (arith, (accepted_bounded _ c.args.self.now.accepted).propositions_in)

pub digit_bit-requires : goal.digit_bit-requires
digit_bit-requires c = omega (arith, (accepted_bounded _ c.args.self.now.accepted).propositions_in)
