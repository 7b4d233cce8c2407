-- All that a check by classes promises (15, 19).
use Rattle.std.specs.Prelude.{◌≡◌, List, ℕ, ◌≤◌}
use Rattle.plan.specs.Moments.{Moments}
use Rattle.plan.specs.Layout.{plan_of}
use Rattle.rounds_making.specs.Outcomes.{Outcome}
use Rattle.rounds.specs.Meaning.{IsSpent, serving_limit, Meaning}
use Rattle.rounds.specs.AfterCheck.{AfterCheck}
use Rattle.classes.specs.Classes.{Devices, class_refusal, class_check_outcome, class_check_table}

-- the check of a plan by the classes of its links, with a table of classes, two lent tables and a limit, answered o
pub record AfterCheckClasses (D : Devices) (plan classes : List ℕ) (limit : ℕ) (first second : Moments) (o : Outcome) : Type 0 where
  pub outcome_is : o ≡ class_check_outcome D plan classes first.entry second.entry limit
  pub first_is : first.exit ≡ class_check_table D plan classes first.entry second.entry limit first.entry
  pub second_is : second.exit ≡ class_check_table D plan classes first.entry second.entry limit second.entry
  pub means : Meaning (plan_of plan) limit o first.exit second.exit
  pub serves : serving_limit ≤ limit → IsSpent o → ⊥
  -- 19.8: a plan that passes is checked as before, to the cell
  pub as_checked : class_refusal D plan classes ≡ 0 → AfterCheck plan limit first second o
