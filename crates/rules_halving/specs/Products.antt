-- For inner contracts only: two runs of n waits, each of whose pairs (a, b) gives the lesser of its waits to place a | b of a third. Nothing here is to be believed:
-- rules 4 and 6 of a row are shown to be such pairs. The first run is F, the second lies in G from `from` on, and the third is H.
use Rattle.std.specs.Prelude.{◌≡◌, Bool, true, ◌⊎◌, List, ℕ, ◌+◌, ◌^◌, ◌≤◌, ◌<◌, min, max, length, get_or, take}
use Rattle.std.specs.Int.Bits.{bit_or}
use Rattle.rules.specs.Tables.{raise_cell}
use Rattle.rules_fill.specs.Steps.{steps}

-- what the pair gives
unfoldable pub pair_wait : List ℕ → List ℕ → ℕ → ℕ → ℕ → ℕ
pair_wait F G from a b = min (get_or F a 0) (get_or G (from + b) 0)

-- the steps of the loops over all pairs: wait f of place a with the wait of place b, and with all n
unfoldable pub step_of_pair : ℕ → List ℕ → ℕ → ℕ → ℕ → List ℕ → List ℕ
step_of_pair f G from a b = raise_cell (bit_or a b) (min f (get_or G (from + b) 0))

unfoldable pub pair_steps : List ℕ → List ℕ → ℕ → ℕ → ℕ → List ℕ → List ℕ
pair_steps F G from n a = steps (step_of_pair (get_or F a 0) G from a) n

-- a pair gives place c the wait v
pub record PairGives (n : ℕ) (F G : List ℕ) (from c v : ℕ) : Type 0 where
  pub a : ℕ
  pub b : ℕ
  pub a_below : a < n
  pub b_below : b < n
  pub joined : bit_or a b ≡ c
  pub wait : v ≡ pair_wait F G from a b

-- H' is H, raised by what all pairs give
pub record Product (n : ℕ) (F G : List ℕ) (from : ℕ) (H H' : List ℕ) : Type 0 where
  pub no_lower : (c : ℕ) → c < n → get_or H c 0 ≤ get_or H' c 0
  pub covers : (a b : ℕ) → a < n → b < n → pair_wait F G from a b ≤ get_or H' (bit_or a b) 0
  pub reason : (c : ℕ) → c < n → (get_or H' c 0 ≡ get_or H c 0) ⊎ PairGives n F G from c (get_or H' c 0)

-- three runs of n waits, n a power of 2
pub record PairsLent (n : ℕ) (F G : List ℕ) (from : ℕ) (H : List ℕ) : Type 0 where
  pub power : ℕ
  pub power_is : n ≡ 2 ^ power
  pub long_first : length F ≡ n
  pub long_second : from + n ≤ length G
  pub long_third : length H ≡ n

-- and room for n more from `top` on
pub record HalveLent (n : ℕ) (F G : List ℕ) (from : ℕ) (H : List ℕ) (top : ℕ) : Type 0 where
  pub pairs : PairsLent n F G from H
  pub below_top : from + n ≤ top
  pub room : top + n ≤ length G

-- the greater of each two of the 2n waits from `from` on, from `top` on; what lies below stays
pub record JoinLent (G : List ℕ) (from n top : ℕ) : Type 0 where
  pub below_top : from + (n + n) ≤ top
  pub room : top + n ≤ length G

pub record Joined (G : List ℕ) (from n top : ℕ) (G' : List ℕ) : Type 0 where
  pub greater : (i : ℕ) → i < n → get_or G' (top + i) 0 ≡ max (get_or G (from + i) 0) (get_or G (from + (n + i)) 0)
  pub same_below : take top G' ≡ take top G

-- where it holds, no pair gives more than any place of H has
pub record NothingNew (n : ℕ) (F G : List ℕ) (from : ℕ) (H : List ℕ) (r : Bool) : Type 0 where
  pub no_more : r ≡ true → (a b c : ℕ) → a < n → b < n → c < n → pair_wait F G from a b ≤ get_or H c 0
