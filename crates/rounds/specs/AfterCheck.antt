-- All that a check promises (9, 15).
use Rattle.std.specs.Prelude.{◌≡◌, List, ℕ, ◌≤◌}
use Rattle.plan.specs.Moments.{Moments}
use Rattle.plan.specs.Layout.{plan_of}
use Rattle.plan.specs.Forms.{without_labels}
use Rattle.plan.specs.Refusal.{Accepted}
use Rattle.rounds_making.specs.Outcomes.{Outcome}
use Rattle.rounds.specs.CheckOutcomes.{check_outcome, check_table}
use Rattle.rounds.specs.Meaning.{IsSpent, serving_limit, Meaning}

-- 22.7: it is the check of the plan without labels of points, to the cell
pub record AsUnlabelled (plan : List ℕ) (limit : ℕ) (first second : Moments) (o : Outcome) : Type 0 where
  pub outcome_is : o ≡ check_outcome (without_labels plan) first.entry second.entry limit
  pub first_is : first.exit ≡ check_table (without_labels plan) first.entry second.entry limit first.entry
  pub second_is : second.exit ≡ check_table (without_labels plan) first.entry second.entry limit second.entry

-- the check of a plan with two lent tables and a limit answered o
pub record AfterCheck (plan : List ℕ) (limit : ℕ) (first second : Moments) (o : Outcome) : Type 0 where
  pub outcome_is : o ≡ check_outcome plan first.entry second.entry limit
  pub first_is : first.exit ≡ check_table plan first.entry second.entry limit first.entry
  pub second_is : second.exit ≡ check_table plan first.entry second.entry limit second.entry
  pub means : Meaning (plan_of plan) limit o first.exit second.exit
  pub serves : serving_limit ≤ limit → IsSpent o → ⊥
  pub as_unlabelled : Accepted plan → AsUnlabelled plan limit first second o
