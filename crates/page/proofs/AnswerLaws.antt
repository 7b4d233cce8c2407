-- What a page answers, test after test, and its output.
use mathlib.Core.Path.{◌≡◌, refl, sym, ap, ◌∙◌}
use mathlib.Core.Bool.{Bool, true, false, true≢false}
use mathlib.Core.List.{List, ◌++◌}
use Prim.Native.Nat.{ℕ, zero, suc, ◌*◌, ◌≤◌, ◌<◌}
use native.Mathlib.Nat.{zero-add}
use native.Mathlib.Omega.{arith}
use lib.ListN.{length, get_or, drop}
use lib.Seq.{sets-eq}
use borrow.Author.Tests.{lt-ltb, le-ltb, le-leb, eq-eqb, ne_eqb}
use Rattle.plan.specs.Counting.{count}
use Rattle.plan.specs.Plan.{cells}
use Rattle.plan.specs.Layout.{plan_of}
use Rattle.plan.specs.Numbers.{number_of}
use Rattle.plan.specs.Refusal.{every, refusal, Accepted}
use Rattle.plan.specs.declared.refusal.Refusal.{Refusal}
use Rattle.plan.proofs.CountLaws.{count_few}
use Rattle.plan.proofs.Ranges.{accepted_bounded}
use Rattle.text.proofs.Puts.{Written}
use Rattle.page.specs.Page.{above, most_printed, wait_fits, page_of, PageOutcome, printed, refused, page_outcome, page_output}
use Rattle.page.specs.AfterPage.{AfterPage}
use Rattle.page.specs.Lent.{Printable}
use Rattle.page.proofs.PageLaws.{fixed_columns}

abbrev refuses : PageOutcome → Bool
refuses (printed n) = false
refuses (refused n) = true

-- no refusal has the number 0
some_number : (r : Refusal) → number_of r ≡ 0 → ⊥
some_number r z = grind arith

module _ (bs T out : List ℕ) where
  abbrev Answered : PageOutcome → List ℕ → Type 0
  Answered o after = AfterPage bs T (record { entry = out; exit = after }) o

  -- a refusal leaves the output as it was
  answered_refused : (n : ℕ) → page_outcome bs T out ≡ refused n → Answered (refused n) out
  unfolding page_output
  answered_refused n e = record { outcome_is = sym e; output_is = rw e refl; fixed = λ m q. absurd (true≢false (ap refuses q)) }

  pub by_plan : (m : ℕ) → m ≡ refusal bs → (m ≡ 0 → ⊥) → Answered (refused m) out
  unfolding page_outcome
  by_plan m e h = answered_refused m (rw (← e, ne_eqb m 0 h) refl)

  pub by_refusal : (r : Refusal) → number_of r ≡ refusal bs → Answered (refused (number_of r)) out
  by_refusal r e = by_plan (number_of r) e (some_number r)

  module _ (accepted : Accepted bs) where
    pub by_table : length T < cells (plan_of bs) → Answered (refused 6) out
    unfolding page_outcome
    by_table h = answered_refused 6 (rw (eq-eqb (refusal bs) 0 accepted, lt-ltb (length T) (cells (plan_of bs)) h) refl)

    module _ (long : cells (plan_of bs) ≤ length T) where
      pub by_wait : every (wait_fits T) (cells (plan_of bs)) ≡ false → Answered (refused 12) out
      unfolding page_outcome
      by_wait e = answered_refused 12 (rw (eq-eqb (refusal bs) 0 accepted, le-ltb (length T) (cells (plan_of bs)) long, e) refl)

      module _ (fit : every (wait_fits T) (cells (plan_of bs)) ≡ true) where
        pub printable : Printable bs T
        printable = record { accepted = accepted; long = long; waits_fit = fit }

        page_long : length (page_of (plan_of bs) T) ≡ 22 * count (above T) (cells (plan_of bs))
        page_long = (fixed_columns bs T printable).page_length

        pub by_room : length out < 22 * count (above T) (cells (plan_of bs)) → Answered (refused 13) out
        unfolding page_outcome
        by_room h = answered_refused 13 (rw (eq-eqb (refusal bs) 0 accepted, le-ltb (length T) (cells (plan_of bs)) long, fit, lt-ltb (length out) (length (page_of (plan_of bs) T)) (rw page_long h)) refl)

        module _ (room : 22 * count (above T) (cells (plan_of bs)) ≤ length out) where
          outcome_printed : page_outcome bs T out ≡ printed (length (page_of (plan_of bs) T))
          unfolding page_outcome
          outcome_printed = rw (eq-eqb (refusal bs) 0 accepted, le-ltb (length T) (cells (plan_of bs)) long, fit, le-ltb (length out) (length (page_of (plan_of bs) T)) (rw page_long room)) refl

          output_printed : page_output bs T out ≡ page_of (plan_of bs) T ++ drop (length (page_of (plan_of bs) T)) out
          unfolding page_output
          output_printed = rw outcome_printed refl

          pub answered_printed : {r : ℕ} {after : List ℕ} → Written (page_of (plan_of bs) T) out r after → Answered (printed r) after
          answered_printed p = record {
            outcome_is = ap printed p.length_is ∙ sym outcome_printed;
            output_is = p.out_is ∙ sets-eq (page_of (plan_of bs) T) out 0 (omega (arith, room, page_long)) ∙ ap (λ (k : ℕ). page_of (plan_of bs) T ++ drop k out) (zero-add (length (page_of (plan_of bs) T))) ∙ sym output_printed;
            fixed = λ m q. fixed_columns bs T printable;
          }

-- ---- never refused: an accepted plan, a table with all its cells, waits that fit, and an output that holds any page
every_true : (f : ℕ → Bool) (n : ℕ) → ((i : ℕ) → i < n → f i ≡ true) → every f n ≡ true
unfolding every
every_true f zero h = refl
every_true f (suc n) h = rw (every_true f n (λ i k. h i (omega arith)), h n (omega arith)) refl

module _ (bs T out : List ℕ) where
  pub prints : Accepted bs → cells (plan_of bs) ≤ length T → ((c : ℕ) → c < cells (plan_of bs) → get_or T c 0 ≤ most_printed) → 360448 ≤ length out → page_outcome bs T out ≡ printed (length (page_of (plan_of bs) T))
  unfolding wait_fits
  prints a long h room =
      outcome_printed
      bs
      T
      out
      a
      long
      (every_true (wait_fits T) (cells (plan_of bs)) (λ c k. le-leb (get_or T c 0) most_printed (h c k)))
      (omega (arith, count_few (above T) (cells (plan_of bs)), (accepted_bounded bs a).cells_in))
