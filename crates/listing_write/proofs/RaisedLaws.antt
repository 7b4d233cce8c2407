-- A round's lines, cell by cell: what is written after each cell, and that the next line has room.
use mathlib.Core.Path.{◌≡◌, refl, ◌∙◌}
use mathlib.Core.List.{List, [], ◌∷◌}
use Prim.Native.Nat.{ℕ, suc, ◌+◌, ◌-◌, ◌≤◌, ◌<◌}
use native.Mathlib.Omega.{arith}
use native.Mathlib.Numerals.{add-one}
use lib.ListN.{length, get_or, length-append}
use borrow.Author.Tests.{lt-ltb, le-ltb}
use Rattle.plan.specs.Plan.{Plan}
use Rattle.plan.specs.Layout.{plan_of}
use Rattle.plan.proofs.Ranges.{WellFormed, accepted_well_formed}
use Rattle.rules.specs.declared.Line.{Line}
use Rattle.rules.specs.Lines.{line_at}
use Rattle.listing_lines.specs.Listed.{cell_lines, raised_lines}
use Rattle.listing_write.specs.Progress.{Appended}
use Rattle.listing_lines.proofs.LineCounts.{raised_within}
use Rattle.listing_write.proofs.Appending.{append_none, append_then, numbered_on}
use Rattle.listing_write.specs.Entries.{RoundToList}

-- the numbers of the cells stay right while the round's lines are written
pub round_on : (plan marks : List ℕ) (horizon : ℕ) (first second index out out' : List ℕ) (m at to : ℕ) (ks : List Line) → to ≡ at + length ks → Appended (plan_of plan) at ks out out' → RoundToList plan marks horizon first second index out m at → RoundToList plan marks horizon first second index out' m to
round_on plan marks horizon first second index out out' m at to ks e s d = record {
  exact = d.exact;
  is_next = d.is_next;
  numbers = numbered_on (plan_of plan) (omega (arith, (accepted_well_formed plan d.exact.accepted).two)) first index out out' at to ks e d.numbers s;
  listing = record { count = s.counted ∙ d.listing.count; long = s.as_long ∙ d.listing.long; few = d.listing.few };
}

module _ (P : Plan) (T U : List ℕ) where
  -- no cell was passed yet
  pub listed_start : (at : ℕ) (out : List ℕ) → (at ≡ at + length (raised_lines P T U 0)) × Appended P at (raised_lines P T U 0) out out
  unfolding raised_lines
  listed_start at out = (omega arith, append_none P at out)

  pub room_left : (m at c n : ℕ) → c ≤ n → at + length (raised_lines P T U n) < m → at + length (raised_lines P T U c) < m
  room_left m at c n h k = let z : c + (n - c) ≡ n = omega arith in let w = raised_within P T U c (n - c) in omega (arith, rw z at w)

  -- a cell that was not raised has no line, and one that was has its own
  pub cell_passed : (i c : ℕ) (out : List ℕ) → get_or U c 0 ≤ get_or T c 0 → (i ≡ i + length (cell_lines P T U c)) × Appended P i (cell_lines P T U c) out out
  unfolding cell_lines
  cell_passed i c out h = rw (le-ltb (get_or T c 0) (get_or U c 0) h) (omega arith, append_none P i out)

  pub cell_listed : (i c : ℕ) (out out' : List ℕ) → get_or T c 0 < get_or U c 0 → Appended P i (line_at P U c ∷ []) out out' → (i + 1 ≡ i + length (cell_lines P T U c)) × Appended P i (cell_lines P T U c) out out'
  unfolding cell_lines
  cell_listed i c out out' h s = rw (lt-ltb (get_or T c 0) (get_or U c 0) h) (refl, s)

  -- one cell more
  pub listed_more : WellFormed P → (at i n c : ℕ) (out₀ out out' : List ℕ) → i ≡ at + length (raised_lines P T U c) → n ≡ i + length (cell_lines P T U c) → Appended P at (raised_lines P T U c) out₀ out → Appended P i (cell_lines P T U c) out out'
      → (n ≡ at + length (raised_lines P T U (c + 1))) × Appended P at (raised_lines P T U (c + 1)) out₀ out'
  unfolding raised_lines
  listed_more wf at i n c out₀ out out' e f s t =
      let k : c + 1 ≡ suc c = add-one c in
      (rw k (omega (arith, length-append (raised_lines P T U c) (cell_lines P T U c))), rw k (append_then P (omega (arith, wf.two)) at (raised_lines P T U c) (cell_lines P T U c) out₀ out out' i e s t))
