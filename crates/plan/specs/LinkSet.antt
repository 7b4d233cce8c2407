-- Link sets (2.6): a number with bit i for link i.
use Rattle.std.specs.Prelude.{Bool, cond, ℕ, ◌-◌, ◌/◌, ◌%◌, ◌^◌, eqb}
use Rattle.std.specs.Int.Bits.{bit_or}

-- 2.6: link i is in the set
unfoldable pub contains : ℕ → ℕ → Bool
contains s i = eqb (s / 2 ^ i % 2) 1

-- 2.6: the union of two sets
unfoldable pub union : ℕ → ℕ → ℕ
union s t = bit_or s t

-- 2.6: the set with link i added
unfoldable pub insert : ℕ → ℕ → ℕ
insert s i = union s (2 ^ i)

-- 2.6: the set with link i taken out
unfoldable pub remove : ℕ → ℕ → ℕ
remove s i = cond (contains s i) (s - 2 ^ i) s
