-- For inner contracts only: the places without a row's bits, side by side, and what is gathered for them. Nothing here is to be believed: the whole makes `remove_in`.
-- Of a place's bits, the row's have `low` for their lowest, and `times` values.
use Rattle.std.specs.Prelude.{◌≡◌, cond, List, ℕ, ◌+◌, ◌*◌, ◌/◌, ◌%◌, ◌^◌, ◌≤◌, ◌<◌, ltb, length, get_or}
use Rattle.rules.specs.Tables.{raise_cell}
use Rattle.rules_fill.specs.Steps.{steps}
use Rattle.rules_fill.specs.Shapes.{is_line}

-- ---- places
-- the z-th place without the row's bits
unfoldable pub free_place : ℕ → ℕ → ℕ → ℕ
free_place low times z = z / low * times * low + z % low

-- how many bits lie below the row's, are the row's, and lie above
pub record FreeRun (low times count : ℕ) : Type 0 where
  pub below : ℕ
  pub bits : ℕ
  pub above : ℕ
  pub low_is : low ≡ 2 ^ below
  pub times_is : times ≡ 2 ^ bits
  pub count_is : count ≡ 2 ^ (above + below)
  pub small : times * count ≤ 65536

-- a table that has all places from base on
abbrev pub PlacesIn : List ℕ → ℕ → ℕ → ℕ → Type 0
PlacesIn F base times count = base + times * count ≤ length F

-- ---- what is gathered
-- point x's places that have the row's bits at value m
unfoldable pub own_step : List ℕ → ℕ → ℕ → ℕ → ℕ → ℕ → List ℕ → List ℕ
own_step F base low times m z = raise_cell z (get_or F (base + m * low + free_place low times z) 0)

unfoldable pub own_value : List ℕ → ℕ → ℕ → ℕ → ℕ → ℕ → List ℕ → List ℕ
own_value F base low times count i = steps (own_step F base low times (1 + i)) count

-- the first n entries are those of a function
pub record Filled (f : ℕ → ℕ) (n : ℕ) (A : List ℕ) : Type 0 where
  pub at : (z : ℕ) → z < n → get_or A z 0 ≡ f z

-- a wait with the addition, if there is one
unfoldable pub added : ℕ → ℕ → ℕ
added add wait = cond (ltb 0 wait) (wait + add) 0

-- a wait of the other point with the addition, where it is a line's
unfoldable pub other_wait : List ℕ → ℕ → ℕ → ℕ → ℕ → ℕ → ℕ
other_wait F base low times add z = cond (is_line z (get_or F (base + free_place low times z) 0)) (get_or F (base + free_place low times z) 0 + add) 0

unfoldable pub part_wait : List ℕ → ℕ → ℕ → ℕ → ℕ
part_wait B low times z = get_or B (free_place low times z) 0

-- ---- the part raised to the waits given
unfoldable pub spread_step : List ℕ → ℕ → ℕ → ℕ → List ℕ → List ℕ
spread_step G low times z = raise_cell (free_place low times z) (get_or G z 0)

-- room for the waits of n places, n a power of 2, of both points and of the part
pub record Room (n : ℕ) (own others given : List ℕ) : Type 0 where
  pub power : ℕ
  pub power_is : n ≡ 2 ^ power
  pub long_own : n ≤ length own
  pub long_others : n + n ≤ length others
  pub long_given : n ≤ length given

-- the first n entries are 0
abbrev pub NoWaits : ℕ → List ℕ → Type 0
NoWaits n A = (z : ℕ) → z < n → get_or A z 0 ≡ 0
