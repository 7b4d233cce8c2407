-- For inner contracts only: the log of rounds, from which a listing could be written without making the rounds again. Nothing here is to be believed.
use Rattle.std.specs.Prelude.{◌≡◌, cond, List, [], ◌∷◌, ◌++◌, ℕ, zero, suc, ◌+◌, ◌*◌, ◌≤◌, ◌<◌, min, ltb, length, get_or, take}

-- a raised cell with its wait, as one number; a raised cell's wait is above 0, and so is its entry
unfoldable pub entry_of : ℕ → ℕ → ℕ
entry_of c wait = wait * 65536 + c

-- the entry of cell c, if a round from T to U raised it
unfoldable pub cell_entries : List ℕ → List ℕ → ℕ → List ℕ
cell_entries T U c = cond (ltb (get_or T c 0) (get_or U c 0)) (entry_of c (get_or U c 0) ∷ []) []

-- the entries of the cells below n that a round from T to U raised, by cell
unfoldable pub raised_entries : List ℕ → List ℕ → ℕ → List ℕ
raised_entries T U zero = []
raised_entries T U (suc c) = raised_entries T U c ++ cell_entries T U c

-- the same with a 0 at the end
unfoldable pub round_entries : List ℕ → List ℕ → ℕ → List ℕ
round_entries T U n = raised_entries T U n ++ (0 ∷ [])

-- the log begins with the entries es, as far as it is long; `at` of them are there
pub record Logged (es log : List ℕ) (at : ℕ) : Type 0 where
  pub at_is : at ≡ min (length es) (length log)
  pub entries_are : take at log ≡ take at es

-- what a round's log is lent: both tables with w cells for each of n points, the number of notes of each, and the number of entries; a point without notes has the
-- same cells in both
pub record LogLent (n w : ℕ) (first second noted log : List ℕ) (at : ℕ) : Type 0 where
  pub narrow : n * w ≤ 65536
  pub long_first : n * w ≤ length first
  pub long_second : n * w ≤ length second
  pub noted_long : n ≤ length noted
  pub at_in : at ≤ length log
  pub unnoted : (y t : ℕ) → y < n → t < w → get_or noted y 0 ≡ 0 → get_or first (y * w + t) 0 ≡ get_or second (y * w + t) 0

-- where the log began with some entries and then those of `from`, it begins with the same and then those of `to`
pub record LogGrew (from to log : List ℕ) (at : ℕ) (log' : List ℕ) (at' : ℕ) : Type 0 where
  pub logged : (es : List ℕ) → Logged (es ++ from) log at → Logged (es ++ to) log' at'
  pub at_in : at' ≤ length log'

-- what the log of one cell is lent
pub record CellLogLent (first second log : List ℕ) (at c : ℕ) : Type 0 where
  pub low : c < 65536
  pub in_first : c < length first
  pub in_second : c < length second
  pub at_in : at ≤ length log

-- and that of the w cells from base on
pub record PointLogLent (w : ℕ) (first second log : List ℕ) (at base : ℕ) : Type 0 where
  pub narrow : base + w ≤ 65536
  pub long_first : base + w ≤ length first
  pub long_second : base + w ≤ length second
  pub at_in : at ≤ length log
