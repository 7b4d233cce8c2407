-- All that replay promises (11, 15.3, 15.6).
use Rattle.std.specs.Prelude.{◌≡◌, List, ℕ}
use Rattle.plan.specs.Layout.{plan_of}
use Rattle.rules.specs.Derivations.{Derivation, SelfWaitBy}
use Rattle.rules_panel.specs.Strategies.{NoPanel}
use Rattle.replay.specs.Listings.{lines_in}
use Rattle.replay.specs.Replaying.{replay}
use Rattle.replay.specs.Derives.{ListingDerives}

-- replay of a listing against a plan answered with this number: 0 exactly where the bytes derive, and then they are a derivation that makes the first alarm wait for itself,
-- and no panel keeps the plan
pub record AfterReplay (plan listing : List ℕ) (number : ℕ) : Type 0 where
  pub number_is : number ≡ replay plan listing
  pub accepted_derives : number ≡ 0 → ListingDerives plan listing
  pub derives_accepted : ListingDerives plan listing → number ≡ 0
  pub derivation : number ≡ 0 → Derivation (plan_of plan) (lines_in listing)
  pub self_wait : number ≡ 0 → SelfWaitBy (plan_of plan) (lines_in listing)
  pub no_panel : number ≡ 0 → NoPanel (plan_of plan)
