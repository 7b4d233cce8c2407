-- Laws of a page: its lines counted, and how long it is.
use mathlib.Core.Path.{◌≡◌, refl, sym, ap, ◌∙◌}
use mathlib.Core.Bool.{Bool, true, false, cond, and-true}
use mathlib.Core.List.{List, [], ◌∷◌, ◌++◌}
use Prim.Native.Nat.{ℕ, zero, suc, ◌+◌, ◌*◌, ◌≤◌, ◌<◌}
use native.Mathlib.Numerals.{add-one}
use native.Mathlib.Omega.{arith}
use lib.Dec.{ltb, leb}
use lib.ListN.{length, get_or, take, length-append}
use lib.Seq.{take-suc}
use Rattle.std.specs.Prelude.{◌&&◌}
use Rattle.std.specs.List.{list_all, filter}
use Rattle.std.proofs.lemmas.List.Folds.{list_all-append}
use Rattle.std.proofs.lemmas.List.Elements.{filter-append}
use borrow.Author.Tests.{lt-ltb, le-ltb}
use Rattle.plan.specs.Counting.{count}
use Rattle.plan.specs.Plan.{Plan, cells}
use Rattle.plan.specs.Layout.{plan_of}
use Rattle.plan.proofs.CountLaws.{count_few}
use Rattle.plan.proofs.Ranges.{accepted_bounded}
use Rattle.rules.specs.declared.Line.{Line}
use Rattle.rules.specs.Lines.{line_at}
use Rattle.text.specs.Joined.{joined}
use Rattle.text.specs.declared.buffer.TextBuffer.{TextBuffer}
use Rattle.text.specs.Buffer.{HasRoom, Puts}
use Rattle.text.proofs.Puts.{puts_none}
use Rattle.page.specs.Columns.{columns}
use Rattle.plan.specs.Refusal.{every}
use Rattle.page.specs.Page.{above, most_printed, wait_fits, cell_text, page_of}
use Rattle.page.specs.AfterPage.{FixedColumns}
use Rattle.page.specs.Lent.{LineFits, Printable}
use Rattle.page.proofs.LineLaws.{line_length, line_fits}

-- ---- a cell above 0, and another
module _ (T : List ℕ) (c : ℕ) where
  pub above_yes : (get_or T c 0 ≡ 0 → ⊥) → above T c ≡ true
  unfolding above
  above_yes h = lt-ltb 0 (get_or T c 0) (omega (arith, h))

  pub above_no : get_or T c 0 ≡ 0 → above T c ≡ false
  unfolding above
  above_no h = le-ltb 0 (get_or T c 0) (omega (arith, h))

  pub text_yes : (P : Plan) → above T c ≡ true → cell_text P T c ≡ columns (line_at P T c)
  unfolding cell_text
  text_yes P e = rw e refl

  pub text_no : (P : Plan) → above T c ≡ false → cell_text P T c ≡ []
  unfolding cell_text
  text_no P e = rw e refl

  -- one cell more, counted
  pub line_counted : (get_or T c 0 ≡ 0 → ⊥) → count (above T) (c + 1) ≡ count (above T) c + 1
  unfolding count
  line_counted h = rw (add-one c, above_yes h) refl

  pub zero_passed : get_or T c 0 ≡ 0 → count (above T) (c + 1) ≡ count (above T) c
  unfolding count
  zero_passed h = rw (add-one c, above_no h) (omega arith)

-- ---- the first cells of a table, as a list
-- all of them fit
pub all_fit : (T : List ℕ) (n : ℕ) → n ≤ length T → list_all (λ w. leb w most_printed) (take n T) ≡ every (wait_fits T) n
unfolding every wait_fits
all_fit T zero h = refl
all_fit T (suc n) h =
    rw (take-suc T n 0 (omega arith), list_all-append (λ w. leb w most_printed) (take n T) (get_or T n 0 ∷ []), all_fit T n (omega arith))
    (ap (λ (b : Bool). every (wait_fits T) n && b) (and-true (leb (get_or T n 0) most_printed)))

-- those above 0, counted
pub above_counted : (T : List ℕ) (n : ℕ) → n ≤ length T → length (filter (λ x. ltb 0 x) (take n T)) ≡ count (above T) n
unfolding count above
above_counted T zero h = refl
above_counted T (suc n) h =
    rw (take-suc T n 0 (omega arith), filter-append (λ x. ltb 0 x) (take n T) (get_or T n 0 ∷ []), length-append)
    (rw (above_counted T n (omega arith)) (ap (λ (k : ℕ). count (above T) n + k) (one (ltb 0 (get_or T n 0)) refl)))
  where
    one : (b : Bool) → ltb 0 (get_or T n 0) ≡ b → length (filter (λ x. ltb 0 x) (get_or T n 0 ∷ [])) ≡ cond (ltb 0 (get_or T n 0)) 1 0
    one true e = rw e refl
    one false e = rw e refl

-- ---- the text of a cell above 0, whose line is l
module _ (plan table : List ℕ) (c : ℕ) (l : Line) (is_line_lem : l ≡ line_at (plan_of plan) table c) (not_zero : get_or table c 0 ≡ 0 → ⊥) where
  text_is : cell_text (plan_of plan) table c ≡ columns l
  text_is = text_yes table c (plan_of plan) (above_yes table c not_zero) ∙ ap columns (sym is_line_lem)

  pub line_asked : {a : TextBuffer} → Printable plan table → c < cells (plan_of plan) → HasRoom (cell_text (plan_of plan) table c) a → LineFits l × HasRoom (columns l) a
  line_asked p h r = (rw is_line_lem (line_fits plan table p c h), rw (← text_is) r)

  pub line_put : {a b : TextBuffer} → Puts (columns l) a b → Puts (cell_text (plan_of plan) table c) a b
  line_put p = rw text_is p

pub nothing_put : (plan table : List ℕ) (c : ℕ) {a : TextBuffer} → get_or table c 0 ≡ 0 → Puts (cell_text (plan_of plan) table c) a a
nothing_put plan table c e = rw (text_no table c (plan_of plan) (above_no table c e)) puts_none

-- ---- 22 bytes a line
module _ (P : Plan) (T : List ℕ) where
  lines_length : (n : ℕ) → ((c : ℕ) → c < n → length (columns (line_at P T c)) ≡ 22) → length (joined (cell_text P T) n) ≡ 22 * count (above T) n
  unfolding joined count
  lines_length zero h = omega arith
  lines_length (suc n) h = go (above T n) refl (lines_length n (λ c k. h c (omega arith)))
    where
      go : (b : Bool) → above T n ≡ b → length (joined (cell_text P T) n) ≡ 22 * count (above T) n → length (joined (cell_text P T) n ++ cell_text P T n) ≡ 22 * (count (above T) n + cond (above T n) 1 0)
      go true e r = rw (length-append, text_yes T n P e, e) (omega (arith, r, h n (omega arith)))
      go false e r = rw (length-append, text_no T n P e, e) (omega (arith, r))

pub fixed_columns : (plan table : List ℕ) → Printable plan table → FixedColumns (plan_of plan) table
unfolding page_of
fixed_columns plan table p =
    let each : (c : ℕ) → c < cells (plan_of plan) → length (columns (line_at (plan_of plan) table c)) ≡ 22 = λ c h. line_length (line_at (plan_of plan) table c) (line_fits plan table p c h) in
    record { line_length = each; page_length = lines_length (plan_of plan) table (cells (plan_of plan)) each }

pub page_room : (plan table : List ℕ) {a : TextBuffer} → Printable plan table → a.length ≡ 0 → HasRoom (page_of (plan_of plan) table) a
page_room plan table p e = record { room = omega (arith, e, (fixed_columns plan table p).page_length, count_few (above table) (cells (plan_of plan)), (accepted_bounded plan p.accepted).cells_in) }
