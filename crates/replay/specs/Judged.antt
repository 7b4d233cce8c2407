-- For inner contracts only: the plan and the bytes of the listing that are judged, and what is known before line i. Nothing here is to be believed.
use Rattle.std.specs.Prelude.{List, ℕ, ◌^◌, ◌<◌}
use Rattle.plan.specs.Plan.{Plan}
use Rattle.plan.specs.Layout.{plan_of}
use Rattle.replay.specs.declared.judging.Judge.{Judge}
use Rattle.replay.specs.Listings.{head_line}

abbrev pub plan_in : Judge → Plan
plan_in j = plan_of j.plan.now

abbrev pub listing_in : Judge → List ℕ
listing_in j = j.listing.bytes.now

-- line i is the next one: the lines before it have labels of p digits
pub record Judged (j : Judge) (i : ℕ) : Type 0 where
  pub line_in : i < 4096
  pub labels_in : (k : ℕ) → k < i → (head_line (listing_in j) k).label < 4 ^ (plan_in j).propositions
