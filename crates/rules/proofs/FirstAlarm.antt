-- The cells of the first alarm, which are the first of a table, and a table in which none of them is above 0.
use mathlib.Core.Path.{◌≡◌}
use mathlib.Core.List.{List}
use Prim.Native.Nat.{ℕ, ◌<◌, ◌≤◌}
use native.Mathlib.Nat.{le_trans, le-suc, mul-le-mul_right}
use native.Mathlib.Omega.{arith}
use lib.ListN.{get_or}
use Rattle.plan.specs.Plan.{Plan, width, cells}
use Rattle.plan.proofs.Ranges.{WellFormed}
use Rattle.rules.specs.declared.Line.{Line}
use Rattle.rules.specs.Lines.{cell_of}
use Rattle.rules.proofs.Cells.{digit_lt}
use Rattle.rules.proofs.InRange.{InRange}
use Rattle.rules.proofs.Next.{Cell}

module _ (P : Plan) where
  -- no cell of Z is above 0
  abbrev pub Quiet : List ℕ → Type 0
  Quiet A = (c : ℕ) → c < width P → get_or A c 0 ≡ 0

  pub first_cell : (l : Line) → InRange P l → l.point ≡ 0 → cell_of P l < width P
  first_cell l h e = rw e (digit_lt _ _ _ _ (omega (arith, h.set_in)) h.label_in)

  pub quiet_no_line : (A : List ℕ) → Quiet A → (l : Line) → Cell P A l → l.point ≡ 0 → ⊥
  quiet_no_line A q l c e = omega (arith, q (cell_of P l) (first_cell l c.inside e), c.holds, c.above)

  pub width_le : WellFormed P → width P ≤ cells P
  width_le wf = omega (arith, mul-le-mul_right (width P) (le_trans (le-suc 1) wf.two))
