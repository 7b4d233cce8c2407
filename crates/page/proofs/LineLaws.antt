-- Laws of a line: blanks, a number right-aligned, and that a line has 22 bytes.
use mathlib.Core.Path.{◌≡◌}
use mathlib.Core.List.{List, [], ◌∷◌}
use Prim.Native.Nat.{ℕ, ◌+◌, ◌-◌, ◌^◌, ◌≤◌, ◌<◌}
use native.Mathlib.Nat.{pow-le-pow_right}
use native.Mathlib.Omega.{arith}
use lib.Dec.{leb→le}
use lib.ListN.{length, get_or, replicate, length-append, length-replicate, replicate-append-replicate}
use Rattle.plan.specs.Plan.{cells}
use Rattle.plan.specs.Layout.{plan_of}
use Rattle.plan.proofs.Ranges.{every_at, accepted_bounded}
use Rattle.rules.specs.declared.Line.{Line}
use Rattle.rules.specs.Lines.{line_at}
use Rattle.rules.proofs.Cells.{at_range}
use Rattle.text.specs.Decimal.{decimal}
use Rattle.text.specs.declared.buffer.TextBuffer.{TextBuffer}
use Rattle.text.specs.Buffer.{HasRoom, Puts}
use Rattle.text.proofs.Decimals.{decimal_length}
use Rattle.text.proofs.Puts.{puts_append, room_first, room_second}
use Rattle.page.specs.Columns.{right_aligned, middle_columns, columns}
use Rattle.page.specs.Page.{most_printed, wait_fits}
use Rattle.page.specs.Lent.{LineFits, Printable}

-- ---- blanks
pub room_blank : {a b : TextBuffer} (n i : ℕ) → i < n → HasRoom (replicate n 32) a → Puts (replicate i 32) a b → HasRoom (32 ∷ []) b
room_blank n i h r p = record { room = omega (arith, r.room, p.length_is, length-replicate {A = ℕ} n 32, length-replicate {A = ℕ} i 32) }

pub put_blank : {a b c : TextBuffer} (i : ℕ) → Puts (replicate i 32) a b → Puts (32 ∷ []) b c → Puts (replicate (i + 1) 32) a c
put_blank i p q = rw (← replicate-append-replicate {A = ℕ} i 1 32) (puts_append p q)

-- ---- a number right-aligned in w columns
aligned_length : (w n : ℕ) → length (decimal n) ≤ w → length (right_aligned w n) ≡ w
unfolding right_aligned
aligned_length w n h = rw (length-append, length-replicate) (omega (arith, h))

-- d is the number of its digits
module _ (w n d : ℕ) (e : d ≡ length (decimal n)) where
  pub room_blanks : {a : TextBuffer} → HasRoom (right_aligned w n) a → HasRoom (replicate (w - d) 32) a
  unfolding right_aligned
  room_blanks r = rw e (room_first _ _ r)

  pub room_number : {a b : TextBuffer} → HasRoom (right_aligned w n) a → Puts (replicate (w - d) 32) a b → HasRoom (decimal n) b
  unfolding right_aligned
  room_number r p = room_second _ _ r (rw e at p)

  pub put_aligned : {a b c : TextBuffer} → Puts (replicate (w - d) 32) a b → Puts (decimal n) b c → Puts (right_aligned w n) a c
  unfolding right_aligned
  put_aligned p q = puts_append (rw e at p) q

-- ---- a line
pub point_digits : (l : Line) → LineFits l → length (decimal l.point) ≤ 2
point_digits l f = decimal_length 1 l.point f.point_fits

pub wait_digits : (l : Line) → LineFits l → length (decimal l.wait) ≤ 6
wait_digits l f = decimal_length 5 l.wait f.wait_fits

pub line_length : (l : Line) → LineFits l → length (columns l) ≡ 22
unfolding columns middle_columns
line_length l f =
    simp length-append
    (omega (arith, aligned_length 2 l.point (point_digits l f), aligned_length 6 l.wait (wait_digits l f)))

-- the lines of a table that can be printed
module _ (plan table : List ℕ) (p : Printable plan table) (c : ℕ) (h : c < cells (plan_of plan)) where
  wait_in : get_or table c 0 ≤ most_printed
  unfolding wait_fits
  wait_in = leb→le (get_or table c 0) most_printed (every_at (wait_fits table) (cells (plan_of plan)) c (rw p.waits_fit tt) h)

  pub line_fits : LineFits (line_at (plan_of plan) table c)
  line_fits =
      let d = accepted_bounded plan p.accepted in
      let r = at_range (plan_of plan) table c h in
      let s : 2 ^ (plan_of plan).links ≤ 2 ^ 4 = pow-le-pow_right {n = 2} (omega arith) d.links_in in
      record { point_fits = omega (arith, r.point_in, d.points_in); set_fits = omega (arith, r.set_in); wait_fits = omega (arith, wait_in) }
