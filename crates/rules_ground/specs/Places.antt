-- For inner contracts only: places with no bit outside a mask, in increasing order. Nothing here is to be believed.
use Rattle.std.specs.Prelude.{◌≡◌, ℕ, ◌^◌, ◌≤◌, ◌<◌}
use Rattle.std.specs.Int.Bits.{bit_and}

-- t has no bit outside the mask
abbrev pub Within : ℕ → ℕ → Type 0
Within mask t = bit_and t mask ≡ t

-- some number within the mask has F
pub record SomeWithin (F : ℕ → Type 0) (mask : ℕ) : Type 0 where
  pub index : ℕ
  pub within : Within mask index
  pub holds : F index

-- 2 ^ bits places, and a mask of theirs
pub record Masked (mask end : ℕ) : Type 0 where
  pub bits : ℕ
  pub end_is : end ≡ 2 ^ bits
  pub small : end ≤ 4096
  pub mask_in : mask < end

-- one of these places within the mask
pub record Walked (t mask end : ℕ) : Type 0 where
  pub masked : Masked mask end
  pub place_in : t < end
  pub within : Within mask t

-- the next such place after t, or the end
pub record Next (t mask end r : ℕ) : Type 0 where
  pub after : t < r
  pub to : r ≤ end
  pub within : r < end → Within mask r
  pub skips : (j : ℕ) → t < j → j < r → Within mask j → ⊥
