-- For inner contracts only: a part that holds cells of a table, some raised, and the notes of those. Nothing here is to be believed.
use Rattle.std.specs.Prelude.{◌≡◌, Bool, not, List, ℕ, ◌+◌, ◌≤◌, ◌<◌, T as Is, eqb, length, get_or}
use Rattle.rules_listed.specs.Places.{Listed, count_below}

-- cell c of the part B differs from the table's, whose cells for it start at own
unfoldable pub raised_at : List ℕ → ℕ → List ℕ → ℕ → Bool
raised_at F own B c = not (eqb (get_or B c 0) (get_or F (own + c) 0))

-- w cells of the part are the table's or higher; each place that is higher is noted once
pub record Noted (w : ℕ) (F : List ℕ) (own : ℕ) (B N : List ℕ) (count : ℕ) : Type 0 where
  pub table_long : own + w ≤ length F
  pub part_long : w ≤ length B
  pub notes_long : w ≤ length N
  pub no_lower : (c : ℕ) → c < w → get_or F (own + c) 0 ≤ get_or B c 0
  pub count_is : count ≡ count_below (raised_at F own B) w
  pub within : (i : ℕ) → i < count → get_or N i 0 < w
  pub all_noted : (c : ℕ) → c < w → Is (raised_at F own B c) → Listed N 0 count c
