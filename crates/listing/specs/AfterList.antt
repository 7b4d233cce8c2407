-- All that a listing promises (10, 15).
use Rattle.std.specs.Prelude.{◌≡◌, List, ℕ, ◌≤◌}
use Rattle.plan.specs.Moments.{Moments}
use Rattle.plan.specs.Layout.{plan_of}
use Rattle.rounds_making.specs.Outcomes.{Outcome}
use Rattle.rounds.specs.Meaning.{IsSpent, serving_limit, Meaning}
use Rattle.listing.specs.ListOutcomes.{list_outcome, length_with, list_table, index_with, OutputWith}

-- the listing of a plan with two lent tables, a limit, a 16-bit table and an output answered o, with the listing's length in bytes
pub record AfterList (plan : List ℕ) (limit : ℕ) (first second index out : Moments) (o : Outcome) (bytes : ℕ) : Type 0 where
  pub outcome_is : o ≡ list_outcome plan first.entry second.entry limit index.entry out.entry
  pub length_is : bytes ≡ length_with (plan_of plan) o
  pub first_is : first.exit ≡ list_table plan first.entry second.entry limit index.entry first.entry
  pub second_is : second.exit ≡ list_table plan first.entry second.entry limit index.entry second.entry
  pub index_is : index.exit ≡ index_with (plan_of plan) o index.entry
  pub output_is : OutputWith plan o out.entry out.exit
  pub means : Meaning (plan_of plan) limit o first.exit second.exit
  pub serves : serving_limit ≤ limit → IsSpent o → ⊥
