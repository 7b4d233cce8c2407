-- `rules_apply::sets::remove` meets its contract: the bit is taken out where it is set.
use mathlib.Core.Path.{◌≡◌, refl}
use mathlib.Core.Bool.{cond}
use Prim.Native.Nat.{ℕ, zero, suc, ◌+◌, ◌-◌, ◌*◌, ◌/◌, ◌%◌, ◌^◌, ◌<◌}
use native.Mathlib.Omega.{arith}
use lib.Bits.{bit_and}
use lib.Dec.{eqb}
use lib.Pow.{pow-lt}
use Rattle.std.proofs.lemmas.Nat.{and-not, and_comm}
use Rattle.std.proofs.lemmas.Nat.Bits.{and_pow}
use Rattle.plan.specs.LinkSet.{contains, remove}
use Rattle.plan.proofs.Widths.{shift}
use Rattle.rules_apply.proofs.sets.remove.Goals as goal

rest : (r s p b : ℕ) → b < 2 → r + b * p ≡ s → r ≡ cond (eqb b 1) (s - p) s
rest r s p zero h e = omega (arith, e)
rest r s p (suc zero) h e = omega (arith, e)
rest r s p (suc (suc b)) h e = absurd (omega arith)

removed : (s i : ℕ) → i < 64 → s < 18446744073709551616 → bit_and s (18446744073709551615 - 2 ^ i) ≡ remove s i
unfolding remove contains
removed s i h k = rest _ _ _ (s / 2 ^ i % 2) (omega arith) (omega (arith, and-not 64 (2 ^ i) s (pow-lt {j = 64} h) k, and_pow s i, and_comm s (2 ^ i), and_comm s (18446744073709551615 - 2 ^ i)))

pub returns : goal.returns
returns c = rw (shift c.args.i c.args.i c.requires refl) (removed _ _ c.requires c.ranges.set.fits)
