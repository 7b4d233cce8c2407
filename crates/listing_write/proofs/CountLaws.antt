-- Laws of a count that goes no further than 4,097: cell by cell, and round by round.
use mathlib.Core.Path.{◌≡◌, sym, ap, ap₂, ◌∙◌}
use mathlib.Core.List.{List}
use Prim.Native.Nat.{ℕ, suc, ◌+◌, ◌-◌, ◌≤◌, ◌<◌, min}
use native.Mathlib.Nat.{le_refl}
use native.Mathlib.Numerals.{add-one}
use native.Mathlib.Omega.{arith}
use lib.ListN.{length, get_or, take}
use Rattle.plan.specs.Plan.{Plan, cells}
use Rattle.plan.specs.Layout.{plan_of}
use Rattle.plan.specs.Horizons.{plan_with}
use Rattle.plan.specs.Refusal.{Accepted}
use Rattle.rules.specs.Tables.{next}
use Rattle.rules_fill.specs.Parts.{AtMost, laid_over}
use Rattle.listing_lines.specs.Listed.{table, raised_lines, lines_to, listing_lines, BreaksIn}
use Rattle.listing_write.specs.Progress.{Exact}
use Rattle.listing_lines.proofs.LineCounts.{raised_counted, raised_passed, lines_next, listing_count}
use Rattle.listing_write.proofs.ExactTables.{copy_exact, round_exact, next_exact, breaks_after, table_room}

-- ---- cell by cell
module _ (P : Plan) (T U : List ℕ) (lines : ℕ) where
  pub none_passed : lines ≤ 4097 → lines ≡ min 4097 (lines + length (raised_lines P T U 0))
  unfolding raised_lines
  none_passed h = omega arith

  module _ (c count : ℕ) (so_far : count ≡ min 4097 (lines + length (raised_lines P T U c))) where
    pub one_counted : (n : ℕ) → get_or T c 0 < get_or U c 0 → n ≡ min 4097 (count + 1) → n ≡ min 4097 (lines + length (raised_lines P T U (c + 1)))
    one_counted n h e = rw add-one (omega (arith, raised_counted P T U c h))

    pub one_passed : (n : ℕ) → get_or U c 0 ≤ get_or T c 0 → n ≡ count → n ≡ min 4097 (lines + length (raised_lines P T U (c + 1)))
    one_passed n h e = rw add-one (omega (arith, raised_passed P T U c h))

-- ---- one round
-- both tables hold the round's table, and n is the lines and those of the round
pub record Counted (P : Plan) (lines n : ℕ) (F F' G' : List ℕ) : Type 0 where
  pub count_is : n ≡ min 4097 (lines + length (raised_lines P F (next P F) (cells P)))
  pub first_is : F' ≡ next P F
  pub second_is : G' ≡ next P F

-- a round, the count and the copy; the code's number e is the cells
pub round_counted : (bs M : List ℕ) (h : ℕ) (F G : List ℕ) → Exact bs M h F G → (lines n e : ℕ) (F' G' : List ℕ) → e ≡ cells (plan_of bs)
    → G' ≡ laid_over (cells (plan_of bs)) (next (plan_with bs h) (take (cells (plan_of bs)) F)) G → ((P : Plan) → n ≡ min 4097 (lines + length (raised_lines P F G' (length F)))) → F' ≡ laid_over e G' F → Counted (plan_of bs) lines n F F' G'
round_counted bs M h F G x lines n e F' G' k g c f =
    let P = plan_of bs in
    let second = round_exact bs M h F G x G' g in
    let sized : length G' ≡ e = ap length second ∙ next_exact bs M h F G x ∙ sym k in
    record {
      count_is = c P ∙ ap₂ (λ (U : List ℕ) (m : ℕ). min 4097 (lines + length (raised_lines P F U m))) second x.first_length;
      first_is = copy_exact e G' F F' sized (x.first_length ∙ sym k) f ∙ second;
      second_is = second;
    }

-- ---- round by round
-- F holds the table of round r, and n is the last line and the lines of the rounds up to r
pub record Reached (P : Plan) (r n : ℕ) (F : List ℕ) : Type 0 where
  pub count_is : n ≡ min 4097 (1 + length (lines_to P r))
  pub table_is : F ≡ table P r

pub reached_none : (P : Plan) (F : List ℕ) → F ≡ table P 0 → Reached P 0 1 F
unfolding lines_to
reached_none P F e = record { count_is = omega arith; table_is = e }

module _ (P : Plan) (r lines : ℕ) (F : List ℕ) (reached : Reached P r lines F) where
  pub reached_few : lines ≤ 4097
  reached_few = omega (arith, reached.count_is)

  pub reached_all : (s : ℕ) → r ≡ s → Reached P s lines F
  reached_all s e = rw e at reached

  pub reached_more : (n : ℕ) (F' : List ℕ) → n ≡ min 4097 (lines + length (raised_lines P F (next P F) (cells P))) → F' ≡ next P F → Reached P (r + 1) n F'
  reached_more n F' e f = rw add-one (record {
    count_is = omega (arith, reached.count_is, rw reached.table_is at e, lines_next P r);
    table_is = f ∙ ap (next P) reached.table_is;
  })

pub reached_room : (bs : List ℕ) → Accepted bs → (s : ℕ) → BreaksIn (plan_of bs) (suc s) → (r n : ℕ) (F : List ℕ) → r ≤ s → Reached (plan_of bs) r n F → AtMost 4000000000 F
reached_room bs a s b r n F h t = rw t.table_is (table_room bs a s b r h)

-- ---- the listing
module _ (P : Plan) (r : ℕ) (b : BreaksIn P r) where
  pub breaks_last : BreaksIn P (suc (r - 1))
  breaks_last = rw (breaks_after P r b) at b

  pub listing_counted : (n : ℕ) → n ≡ min 4097 (1 + length (lines_to P (r - 1))) → n ≡ min 4097 (length (listing_lines P r))
  listing_counted n e = omega (arith, ap (λ (k : ℕ). length (listing_lines P k)) (breaks_after P r b), listing_count P (r - 1))

  pub last_table : (F F' : List ℕ) → F ≡ table P (r - 1) → F' ≡ next P F → F' ≡ table P r
  last_table F F' e f = f ∙ ap (next P) e ∙ ap (table P) (sym (breaks_after P r b))

-- the last round is lent the table before it
pub last_lent : (bs : List ℕ) → Accepted bs → (r : ℕ) → BreaksIn (plan_of bs) r → (n : ℕ) (F : List ℕ) → n ≡ min 4097 (1 + length (lines_to (plan_of bs) (r - 1))) → F ≡ table (plan_of bs) (r - 1) → AtMost 4000000000 F × (n ≤ 4097)
last_lent bs a r b n F e f = (rw f (table_room bs a (r - 1) (breaks_last (plan_of bs) r b) (r - 1) (le_refl (r - 1))), omega arith)
