-- A table computed from its rule: antt compares the code's table with it entry by entry, and one law reads an entry.
use mathlib.Core.Path.{◌≡◌, refl, sym, ap, ◌∙◌}
use mathlib.Core.Bool.{Bool, true, false, cond}
use mathlib.Core.List.{List, [], ◌∷◌}
use Prim.Native.Nat.{ℕ, zero, suc, ◌+◌, ◌<◌}
use native.Mathlib.Nat.{add-zero, zero-add, add-suc, suc-add, le_of_suc-le-suc, not-suc-le-zero}
use lib.Dec.{eqb}
use lib.ListN.{get_or}

-- f i, f (i + 1), .., n of them
abbrev pub tabulate : (ℕ → ℕ) → ℕ → ℕ → List ℕ
tabulate f i zero = []
tabulate f i (suc n) = f i ∷ tabulate f (suc i) n

entry : (f : ℕ → ℕ) (i n k : ℕ) → k < n → get_or (tabulate f i n) k 0 ≡ f (i + k)
entry f i zero k h = absurd (not-suc-le-zero h)
entry f i (suc n) zero h = ap f (sym (add-zero i))
entry f i (suc n) (suc k) h = entry f (suc i) n k (le_of_suc-le-suc h) ∙ ap f (suc-add i k ∙ sym (add-suc i k))

pub tabulated : (f : ℕ → ℕ) (n k : ℕ) → k < n → get_or (tabulate f 0 n) k 0 ≡ f k
tabulated f n k h = entry f 0 n k h ∙ ap f (zero-add k)

-- the test that a mark is 1 gives back what was marked
pub mark_test : (b : Bool) → eqb (cond b 1 0) 1 ≡ b
mark_test true = refl
mark_test false = refl
