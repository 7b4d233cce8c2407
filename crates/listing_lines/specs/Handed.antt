-- A listing handed over (10.11, 15.3, 15.6).
use Rattle.std.specs.Prelude.{◌≡◌, List, ℕ}
use Rattle.plan.specs.Layout.{plan_of}
use Rattle.rules.specs.Derivations.{Derivation, SelfWaitBy}
use Rattle.rules_panel.specs.Strategies.{NoPanel}
use Rattle.replay.specs.Listings.{lines_in}
use Rattle.replay.specs.Replaying.{replay}
use Rattle.replay.specs.Derives.{ListingDerives}
use Rattle.listing_lines.specs.Listed.{listing_lines}

-- its lines are those of 10.1; its rules, rows and parents, which are free, are such that replay accepts it;
-- it is a derivation from its plan, by the rules, rows and parents that it names, and makes the first alarm wait for itself; no panel keeps the plan
pub record Listing (plan bs : List ℕ) (r : ℕ) : Type 0 where
  pub lines_are : lines_in bs ≡ listing_lines (plan_of plan) r
  pub replayed : replay plan bs ≡ 0
  pub derives : ListingDerives plan bs
  pub derivation : Derivation (plan_of plan) (lines_in bs)
  pub self_wait : SelfWaitBy (plan_of plan) (lines_in bs)
  pub no_panel : NoPanel (plan_of plan)
