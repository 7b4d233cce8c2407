-- For inner contracts only: the places without a row's bits, as the code holds them. Nothing here is to be believed.
use Rattle.std.specs.Prelude.{◌≡◌, ℕ, ◌+◌, ◌*◌}
use Rattle.rules_dense.specs.declared.gather.Free.{Free}

-- those of a row's mask, among w places
pub record FreeOf (mask w : ℕ) (free : Free) : Type 0 where
  pub width_is : free.times * free.count ≡ w
  pub mask_is : mask + free.low ≡ free.times * free.low
