-- Laws of the text as a whole: its lines, when it can be put, and what the report ensures once it is.
use mathlib.Core.Path.{◌≡◌, refl, sym, ap, ap₂, subst⁻¹, ◌∙◌}
use mathlib.Core.Bool.{true, false, true≢false}
use mathlib.Core.Logic.{◌⊎◌, inl, inr}
use mathlib.Core.List.{List, ◌∷◌, ◌++◌, append-nil}
use Prim.Native.Nat.{ℕ, zero, suc, ◌+◌, ◌-◌, ◌*◌, ◌≤◌, ◌<◌}
use native.Mathlib.Nat.{le_refl, zero-add}
use native.Mathlib.Omega.{arith}
use Rattle.std.proofs.Common.{get_or-take, get_or-drop}
use lib.ListN.{length, get_or, take, drop, length-take, length-drop}
use lib.Seq.{take_all, take-append_seam}
use borrow.Author.Tests.{lt-ltb, le-ltb}
use Rattle.std.specs.Borrow.{MutBor}
use Rattle.plan.specs.Plan.{Plan, width, cells}
use Rattle.plan.specs.Layout.{plan_of, most_bytes}
use Rattle.plan.specs.Refusal.{Accepted}
use Rattle.rounds_making.specs.Outcomes.{Outcome, refused}
use Rattle.rounds.specs.CheckOutcomes.{check_outcome, check_table}
use Rattle.rounds.specs.Meaning.{IsSpent, serving_limit, Meaning}
use Rattle.rounds.specs.AfterCheck.{AfterCheck}
use Rattle.rounds.proofs.Meanings.{refused_means}
use Rattle.rounds.proofs.Checking.{refuses_or_runs}
use Rattle.text.specs.Decimal.{decimal}
use Rattle.text.specs.Joined.{joined}
use Rattle.text.specs.declared.buffer.TextBuffer.{TextBuffer}
use Rattle.text.specs.Buffer.{HasRoom, IsEmptyIn, Puts}
use Rattle.text.proofs.Puts.{Written, sets_start, puts_append, room_second}
use Rattle.report.specs.Text.{cell_text, first_line, point_line, is_refused, text_of}
use Rattle.report.specs.Printed.{program_outcome, program_table, printed, overlaid}
use Rattle.report.specs.AfterReport.{AfterReport}
use Rattle.report.specs.Printable.{Printable}
use Rattle.report.proofs.Lengths.{run_long, printed_length}

-- ---- the cells of a point as a part of the table
joined_same : (f g : ℕ → List ℕ) (n : ℕ) → ((i : ℕ) → i < n → f i ≡ g i) → joined f n ≡ joined g n
unfolding joined
joined_same f g zero h = refl
joined_same f g (suc n) h = rw (joined_same f g n (λ i k. h i (omega arith)), h n (omega arith)) refl

pub cell_first : (T : List ℕ) (i : ℕ) → cell_text T 0 i ≡ 32 ∷ decimal (get_or T i 0)
unfolding cell_text
cell_first T i = ap (λ k. 32 ∷ decimal (get_or T k 0)) (zero-add i)

module _ (T : List ℕ) (start width : ℕ) (within : start + width ≤ length T) where
  abbrev part : List ℕ
  part = take (start + width - start) (drop start T)

  part_length : length part ≡ width
  part_length = omega (arith, length-take (start + width - start) (drop start T), length-drop start T)

  part_text : (i : ℕ) → i < width → cell_text part 0 i ≡ cell_text T start i
  unfolding cell_text
  part_text i h = cell_first part i ∙ ap (λ n. 32 ∷ decimal n) (get_or-take (start + width - start) (drop start T) i 0 (omega arith) ∙ get_or-drop start T i 0)

  pub cells_joined : joined (cell_text part 0) (length part) ≡ joined (cell_text T start) width
  cells_joined = rw part_length (joined_same (cell_text part 0) (cell_text T start) width part_text)

-- ---- the lines of a text
pub text_refused : (o : Outcome) (P : Plan) (T : List ℕ) → is_refused o ≡ true → text_of o P T ≡ first_line o
unfolding text_of
text_refused o P T e = rw e (append-nil (first_line o))

-- the code's numbers w and n are the cells of a point and the points
module _ (bs : List ℕ) (o : Outcome) (T : List ℕ) (e : is_refused o ≡ false) (w n : ℕ) (ew : w ≡ width (plan_of bs)) (en : n ≡ (plan_of bs).points) where
  text_lines : text_of o (plan_of bs) T ≡ first_line o ++ joined (point_line T w) n
  unfolding text_of
  text_lines = rw (e, ew, en) refl

  pub lines_asked : {a b : TextBuffer} → Printable bs o T a → Puts (first_line o) a b → (n * w ≤ length T) × HasRoom (joined (point_line T w) n) b
  lines_asked p q = (rw (ew, en) (p.accepted e).1, room_second _ _ (rw text_lines at p.room) q)

  pub lines_put : {a b c : TextBuffer} → Puts (first_line o) a b → Puts (joined (point_line T w) n) b c → Puts (text_of o (plan_of bs) T) a c
  lines_put p q = rw text_lines (puts_append p q)

-- ---- the whole
module _ (bs F G : List ℕ) where
  abbrev Reported : ℕ → List ℕ → List ℕ → List ℕ → List ℕ → Type 0
  Reported r out after F' G' = AfterReport bs (record { entry = F; exit = F' }) (record { entry = G; exit = G' }) (record { entry = out; exit = after }) r

  whole : {r : ℕ} {out after F' G' : List ℕ} → Written (printed bs F G) out r after → F' ≡ program_table bs F G F → G' ≡ program_table bs F G G → (IsSpent (program_outcome bs F G) → ⊥) → Meaning (plan_of bs) serving_limit (program_outcome bs F G) F' G' → Reported r out after F' G'
  unfolding overlaid
  whole {r} {out} {after} p f g s m = record { length_is = p.length_is; output_is = p.out_is ∙ sets_start (printed bs F G) out; first_is = f; second_is = g; never_spent = s; means = m }

  -- ---- over 832 bytes
  module _ (h : most_bytes < length bs) where
    long_table : (L : List ℕ) → program_table bs F G L ≡ L
    unfolding program_table
    long_table L = rw (lt-ltb most_bytes (length bs) h) refl

    long_text : printed bs F G ≡ first_line (refused 1)
    unfolding printed program_outcome
    long_text = rw (lt-ltb most_bytes (length bs) h) (text_refused (refused 1) (plan_of bs) (program_table bs F G F) refl)

    long_outcome : program_outcome bs F G ≡ refused 1
    unfolding program_outcome
    long_outcome = rw (lt-ltb most_bytes (length bs) h) refl

    pub long_reported : {r : ℕ} {out after : List ℕ} → Written (first_line (refused 1)) out r after → Reported r out after F G
    long_reported p = whole (rw long_text p) (sym (long_table F)) (sym (long_table G)) (λ s. rw long_outcome at s) (rw long_outcome (refused_means (plan_of bs) serving_limit 1 F G))

  -- ---- at most 832: the check answered o and left F' and G'
  module _ (h : length bs ≤ most_bytes) (o : Outcome) (F' G' : List ℕ) (k : AfterCheck bs serving_limit (record { entry = F; exit = F' }) (record { entry = G; exit = G' }) o) where
    short_table : (L : List ℕ) → program_table bs F G L ≡ check_table bs F G serving_limit L
    unfolding program_table
    short_table L = rw (le-ltb most_bytes (length bs) h) refl

    short_outcome : o ≡ program_outcome bs F G
    unfolding program_outcome
    short_outcome = rw (le-ltb most_bytes (length bs) h) k.outcome_is

    short_text : printed bs F G ≡ text_of o (plan_of bs) F'
    unfolding printed program_outcome
    short_text = rw (le-ltb most_bytes (length bs) h, short_table F, k.outcome_is, k.first_is) refl

    accepted_then : is_refused o ≡ false → Accepted bs × (cells (plan_of bs) ≤ length F')
    accepted_then e = go (refuses_or_runs bs F G serving_limit)
      where
        go : ((n : ℕ) × (check_outcome bs F G serving_limit ≡ refused n) × (n ≤ 18)) ⊎ (Accepted bs × (cells (plan_of bs) ≤ length F) × (cells (plan_of bs) ≤ length G)) → Accepted bs × (cells (plan_of bs) ≤ length F')
        go (inl (n, q, j)) = absurd (true≢false (sym (ap is_refused (k.outcome_is ∙ q)) ∙ e))
        go (inr (a, f, g)) = (a, subst⁻¹ (λ (L : List ℕ). cells (plan_of bs) ≤ length L) k.first_is (run_long bs F G serving_limit a f g))

    pub short_printable : {out : MutBor (List ℕ)} {b : TextBuffer} → IsEmptyIn out b → Printable bs o F' b
    short_printable e = record { accepted = accepted_then; room = record { room = rw (← short_text) (omega (arith, e.length_is, printed_length bs F G)) } }

    pub short_reported : {r : ℕ} {out after : List ℕ} → Written (text_of o (plan_of bs) F') out r after → Reported r out after F' G'
    short_reported p = whole (rw short_text p) (k.first_is ∙ sym (short_table F)) (k.second_is ∙ sym (short_table G)) (λ s. k.serves (le_refl _) (rw short_outcome s)) (rw (← short_outcome) k.means)

-- ---- read back: an output of 196,608 bytes holds the whole text
overlaid_whole : (text out : List ℕ) → length text ≤ length out → take (length text) (overlaid text out) ≡ text
unfolding overlaid
overlaid_whole text out h = rw (take_all (length out) text h, take-append_seam text (drop (length text) out)) refl

pub read_back : (bs F G : List ℕ) (r : ℕ) (out after : List ℕ) → 196608 ≤ length out → r ≡ length (printed bs F G) → after ≡ overlaid (printed bs F G) out → ((r ≤ length after) × (r ≡ length (take r after))) × (take r after ≡ printed bs F G)
read_back bs F G r out after h er ea =
    let e : take r after ≡ printed bs F G = ap₂ take er ea ∙ overlaid_whole (printed bs F G) out (omega (arith, printed_length bs F G)) in
    let l : r ≡ length (take r after) = er ∙ sym (ap length e) in
    ((omega (arith, l, length-take r after), l), e)
