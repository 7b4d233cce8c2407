-- A 16-bit weight is its up less its down, and one of the two is 0.
use mathlib.Core.Path.{◌≡◌}
use Prim.Native.Nat.{ℕ, ◌-◌, ◌≤◌, ◌<◌}
use borrow.Author.Tests.{lt-ltb, le-ltb}
use Rattle.plan.specs.Layout.{up_of, down_of}

module _ (w v : ℕ) (e : w ≡ v) where
  pub up_positive : w < 32768 → w ≡ up_of v
  unfolding up_of
  up_positive h = rw (← e, lt-ltb w 32768 h)

  pub up_negative : 32768 ≤ w → 0 ≡ up_of v
  unfolding up_of
  up_negative h = rw (← e, le-ltb w 32768 h)

  pub down_positive : w < 32768 → 0 ≡ down_of v
  unfolding down_of
  down_positive h = rw (← e, lt-ltb w 32768 h)

  pub down_negative : 32768 ≤ w → 65536 - w ≡ down_of v
  unfolding down_of
  down_negative h = rw (← e, le-ltb w 32768 h)
