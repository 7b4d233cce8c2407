-- What is lent to a call, as it was on entry and as the call leaves it: short names for the contracts.
use Rattle.std.specs.Prelude.{◌≡◌, List, ℕ, length}
use Rattle.std.specs.Borrow.{MutBor}
use denote.Triple.Both.{Both}

-- the elements of a slice at both moments
abbrev pub Moments : Type 0
Moments = Both (List ℕ) (List ℕ)

abbrev pub moments : Both (MutBor (List ℕ)) (MutBor (List ℕ)) → Moments
moments s = record { entry = s.entry.now; exit = s.exit.now }

-- the call leaves as many elements as there were
abbrev pub SameLength : Both (MutBor (List ℕ)) (MutBor (List ℕ)) → Type 0
SameLength s = length s.exit.now ≡ length s.entry.now
