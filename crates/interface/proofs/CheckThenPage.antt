-- Each table that a check leaves can be printed: into an output of 360,448 bytes, the header's SULGRACH_PAGE, its page is never refused.
use mathlib.Core.Path.{◌≡◌}
use mathlib.Core.List.{List}
use Prim.Native.Nat.{ℕ, ◌≤◌, ◌<◌}
use native.Mathlib.Omega.{arith}
use lib.ListN.{length, get_or, drop, length-append, get_or-append, length-replicate}
use Rattle.plan.specs.Plan.{cells}
use Rattle.plan.specs.Layout.{plan_of}
use Rattle.plan.specs.Refusal.{Accepted}
use Rattle.plan.proofs.Ranges.{accepted_well_formed, accepted_bounded}
use Rattle.rounds_making.specs.Rounds.{zeros}
use Rattle.rounds_making.specs.Outcomes.{run_table}
use Rattle.rounds_making.proofs.TableLengths.{run_length}
use Rattle.rounds.specs.CheckOutcomes.{check_table}
use Rattle.rounds.proofs.Small.{run_small}
use Rattle.rounds.proofs.Checking.{check_leaves}
use Rattle.page.specs.Page.{most_printed, page_of, printed, page_outcome}
use Rattle.page.proofs.AnswerLaws.{prints}

-- L is the first table or the second
module _ (bs F G : List ℕ) (limit : ℕ) (accepted : Accepted bs) (long_first : cells (plan_of bs) ≤ length F) (long_second : cells (plan_of bs) ≤ length G) (L : List ℕ) where
  abbrev left : List ℕ
  left = run_table (plan_of bs) (zeros (plan_of bs)) limit

  left_length : length left ≡ cells (plan_of bs)
  left_length = run_length (plan_of bs) (accepted_well_formed bs accepted) (zeros (plan_of bs)) (length-replicate (cells (plan_of bs)) 0) limit

  waits_small : (c : ℕ) → c < cells (plan_of bs) → get_or (check_table bs F G limit L) c 0 ≤ most_printed
  waits_small c h =
      let d = accepted_bounded bs accepted in
      rw (check_leaves bs F G limit accepted long_first long_second L, get_or-append left (drop (cells (plan_of bs)) L) 0 c (omega (arith, left_length)))
      (omega (arith, d.horizon_in, d.largest_in, run_small (plan_of bs) (accepted_well_formed bs accepted) limit c h))

  table_long : cells (plan_of bs) ≤ length (check_table bs F G limit L)
  table_long = rw (check_leaves bs F G limit accepted long_first long_second L, length-append) (omega (arith, left_length))

  pub check_then_page : (out : List ℕ) → 360448 ≤ length out → page_outcome bs (check_table bs F G limit L) out ≡ printed (length (page_of (plan_of bs) (check_table bs F G limit L)))
  check_then_page out room = prints bs (check_table bs F G limit L) out accepted table_long waits_small room
