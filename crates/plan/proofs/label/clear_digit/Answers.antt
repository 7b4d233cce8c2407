-- `plan::label::clear_digit` meets its contract.
use mathlib.Core.Path.{◌≡◌, ap, ◌∙◌}
use Prim.Native.Nat.{ℕ, ◌*◌, ◌%◌, ◌^◌}
use native.Mathlib.Nat.{mod-lt}
use lib.Dec.{lit<}
use Rattle.plan.specs.Label.{digit, clear_digit}
use Rattle.plan.proofs.LabelLaws.{digit_le}
use Rattle.plan.proofs.Widths.{digit_shift}
use Rattle.plan.proofs.label.clear_digit.Goals as goal

-- the digit in its place
placed : (c : goal.After-digit) → c.digit.result * 2 ^ (2 * c.args.j) % 18446744073709551616 ≡ digit c.args.label c.args.j * 4 ^ c.args.j
unfolding digit
placed c = ap (λ (d : ℕ). d * 2 ^ (2 * c.args.j) % 18446744073709551616) c.digit.ensures ∙ digit_shift _ c.args.j (mod-lt _ (lit< tt)) c.requires.0

pub overflow_sub-result : goal.overflow_sub-result
overflow_sub-result c = rw (placed c) (digit_le c.args.label c.args.j)

pub returns : goal.returns
unfolding clear_digit
returns c = rw (placed c)
