-- The two numbers of a listing, put one after the other.
use mathlib.Core.Path.{◌≡◌}
use mathlib.Core.List.{List}
use Prim.Native.Nat.{ℕ}
use Rattle.rounds_making.specs.Outcomes.{Outcome}
use Rattle.interface.specs.Codes.{count_into, length_into, numbers_into}

-- a is the answer as the check's, b as the listing's
pub numbers_told : (ns : List ℕ) (n : ℕ) {a b : Outcome} {ms ls : List ℕ} → a ≡ b → ms ≡ count_into a ns → ls ≡ length_into b n ms → ls ≡ numbers_into b n ns
numbers_told ns n e h i = cc
