-- What the listing answers and what lent memory then holds (10.6 to 10.10).
use Rattle.std.specs.Prelude.{◌≡◌, Bool, ◌&&◌, ◌||◌, List, ◌++◌, ℕ, ◌+◌, ◌*◌, ltb, eqb, length, take, drop, Result, Ok, Err}
use Rattle.plan.specs.Plan.{Plan, cells}
use Rattle.plan.specs.Layout.{plan_of}
use Rattle.plan.specs.Numbers.{number_of}
use Rattle.plan.specs.Refusal.{refusal}
use Rattle.plan.specs.declared.refusal.Refusal.{Refusal}
use Rattle.rounds_making.specs.Outcomes.{Outcome, kept, broken, spent, refused, pick}
use Rattle.rounds.specs.CheckOutcomes.{pick_table, check_outcome, check_table}
use Rattle.listing.specs.declared.Listed.{Listed}
use Rattle.listing.specs.declared.Listed.TheVariants.{Kept, Broken, Spent}
use Rattle.listing_lines.specs.Listed.{listing_lines, index_table}
use Rattle.listing_lines.specs.Handed.{Listing}

-- 10.6: the outcome that the code's answer stands for
abbrev pub answer_of : Result Listed Refusal → Outcome
answer_of (Ok (Kept r)) = kept r
answer_of (Ok (Broken r n)) = broken r
answer_of (Ok (Spent r)) = spent r
answer_of (Err refusal) = refused (number_of refusal)

-- 10.6: the length that the code's answer carries, 0 where it carries none
abbrev pub length_of : Result Listed Refusal → ℕ
length_of (Ok (Kept r)) = 0
length_of (Ok (Broken r n)) = n
length_of (Ok (Spent r)) = 0
length_of (Err refusal) = 0

-- 10.2: the length of the listing of a plan that breaks in round r
unfoldable pub listing_length : Plan → ℕ → ℕ
listing_length P r = 2 + 14 * length (listing_lines P r)

-- 10.6: the length that goes with an outcome
abbrev pub length_with : Plan → Outcome → ℕ
length_with P (kept r) = 0
length_with P (broken r) = listing_length P r
length_with P (spent r) = 0
length_with P (refused n) = 0

-- 10.10: refusal 7
unfoldable pub too_long : Plan → ℕ → ℕ → Bool
too_long P r room = ltb 4096 (length (listing_lines P r)) || ltb room (listing_length P r)

-- 10.6, 10.10: the check's answer, unless the listing is too long
abbrev pub with_listing : Plan → ℕ → Outcome → Outcome
with_listing P room (kept r) = kept r
with_listing P room (broken r) = pick (too_long P r room) (refused 7) (broken r)
with_listing P room (spent r) = spent r
with_listing P room (refused n) = refused n

-- 10.10: refusal 6 for the 16-bit table: it is shorter than the cells of an accepted plan
unfoldable pub index_short : List ℕ → List ℕ → Bool
index_short bs I = eqb (refusal bs) 0 && ltb (length I) (cells (plan_of bs))

-- 10.6, 10.10: the listing of a plan with lent tables F and G, a limit, a 16-bit table I and an output
unfoldable pub list_outcome : List ℕ → List ℕ → List ℕ → ℕ → List ℕ → List ℕ → Outcome
list_outcome bs F G limit I out = pick (index_short bs I) (refused 6) (with_listing (plan_of bs) (length out) (check_outcome bs F G limit))

-- 10.7, 10.10: what a lent table L then holds: as the check leaves it, under 7 too
unfoldable pub list_table : List ℕ → List ℕ → List ℕ → ℕ → List ℕ → List ℕ → List ℕ
list_table bs F G limit I L = pick_table (index_short bs I) L (check_table bs F G limit L)

-- 10.8: the 16-bit table afterwards: where the answer is broken the numbers of the last lines, and the later entries as they were
abbrev pub index_with : Plan → Outcome → List ℕ → List ℕ
index_with P (kept r) I = I
index_with P (broken r) I = index_table P (listing_lines P r) ++ drop (cells P) I
index_with P (spent r) I = I
index_with P (refused n) I = I

-- 10.9: the output holds the listing, and past its length what it held
pub record HandedOver (plan : List ℕ) (r : ℕ) (out out' : List ℕ) : Type 0 where
  pub listing : Listing plan (take (listing_length (plan_of plan) r) out') r
  pub past : drop (listing_length (plan_of plan) r) out' ≡ drop (listing_length (plan_of plan) r) out
  pub as_long : length out' ≡ length out

-- 10.9: the output afterwards, by the answer: untouched unless broken
abbrev pub OutputWith : List ℕ → Outcome → List ℕ → List ℕ → Type 0
OutputWith plan (kept r) out out' = out' ≡ out
OutputWith plan (broken r) out out' = HandedOver plan r out out'
OutputWith plan (spent r) out out' = out' ≡ out
OutputWith plan (refused n) out out' = out' ≡ out
