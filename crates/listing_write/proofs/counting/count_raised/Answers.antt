-- The loop's invariant: the count is the lines and the raised cells passed.
use mathlib.Core.Path.{◌≡◌, ap, ◌∙◌}
use Prim.Native.Nat.{ℕ, ◌+◌, min}
use native.Mathlib.Omega.{arith}
use lib.ListN.{length}
use Rattle.listing_lines.specs.Listed.{raised_lines}
use Rattle.listing_write.proofs.CountLaws.{none_passed, one_counted, one_passed}
use Rattle.listing_write.proofs.counting.count_raised.Goals.{then-first-c, else-first-c}
use Rattle.listing_write.proofs.counting.count_raised.Goals as goal

pub loop-c-init : goal.loop-c-init
loop-c-init c = (omega arith, omega arith, λ P. none_passed P c.args.first.now c.args.second.now c.args.lines (omega arith))

pub loop-c-preserved : goal.loop-c-preserved
loop-c-preserved c =
    let l = c.loop-c in
    let s = c.args in
    elim c.if-first-c.branch [
      | then-first-c w ↦ (omega arith, omega arith, λ P. one_counted P s.first.now s.second.now s.lines l.c l.count (l.invariant.2 P) c.if-first-c.count w.if-first-c.true (omega (arith, w.count-is, w.min-count.ensures)))
      | else-first-c w ↦ (omega arith, omega arith, λ P. one_passed P s.first.now s.second.now s.lines l.c l.count (l.invariant.2 P) c.if-first-c.count w.if-first-c.false w.count-is)
    ]

pub returns : goal.returns
returns c = let l = c.loop-c in
    let s = c.args in
    let e : l.c ≡ length s.first.now = omega arith in
    λ P. l.invariant.2 P ∙ ap (λ (k : ℕ). min 4097 (s.lines + length (raised_lines P s.first.now s.second.now k))) e
