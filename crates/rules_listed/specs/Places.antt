-- For inner contracts only: lists of places, and loops over them. Nothing here is to be believed.
use Rattle.std.specs.Prelude.{◌≡◌, Bool, cond, List, ℕ, zero, suc, ◌+◌, ◌≤◌, ◌<◌, length, get_or, take, drop}
use Rattle.rules_fill.specs.Steps.{steps}

-- one of the n entries of a list from entry a on is t
pub record Listed (L : List ℕ) (a n t : ℕ) : Type 0 where
  pub at : ℕ
  pub below : at < n
  pub is : get_or L (a + at) 0 ≡ t

-- the n entries from entry a on are there, and are below w
pub record Places (L : List ℕ) (a n w : ℕ) : Type 0 where
  pub long : a + n ≤ length L
  pub within : (i : ℕ) → i < n → get_or L (a + i) 0 < w

-- these entries
abbrev pub entries : List ℕ → ℕ → ℕ → List ℕ
entries L a n = take n (drop a L)

-- a step for each of the n places from entry a on
unfoldable pub listed : (ℕ → List ℕ → List ℕ) → List ℕ → ℕ → ℕ → List ℕ → List ℕ
listed f L a n = steps (λ i. f (get_or L (a + i) 0)) n

-- how many of the numbers below n pass a test
unfoldable pub count_below : (ℕ → Bool) → ℕ → ℕ
count_below f zero = 0
count_below f (suc n) = cond (f n) (suc (count_below f n)) (count_below f n)
