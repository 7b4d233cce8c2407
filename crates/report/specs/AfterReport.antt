-- All that the report promises (13, 15).
use Rattle.std.specs.Prelude.{◌≡◌, List, ℕ, length}
use Rattle.plan.specs.Moments.{Moments}
use Rattle.plan.specs.Layout.{plan_of}
use Rattle.rounds.specs.Meaning.{IsSpent, serving_limit, Meaning}
use Rattle.report.specs.Printed.{program_outcome, program_table, printed, overlaid}

-- the report of an input with two lent tables and an output answered with this length; the answer that it prints is kept, broken or refused
pub record AfterReport (input : List ℕ) (first second out : Moments) (r : ℕ) : Type 0 where
  pub length_is : r ≡ length (printed input first.entry second.entry)
  pub output_is : out.exit ≡ overlaid (printed input first.entry second.entry) out.entry
  pub first_is : first.exit ≡ program_table input first.entry second.entry first.entry
  pub second_is : second.exit ≡ program_table input first.entry second.entry second.entry
  pub never_spent : IsSpent (program_outcome input first.entry second.entry) → ⊥
  pub means : Meaning (plan_of input) serving_limit (program_outcome input first.entry second.entry) first.exit second.exit
