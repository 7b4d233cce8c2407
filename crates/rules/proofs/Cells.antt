-- A line in range has a cell of the table, that cell's line is the line with the table's wait, and the cell of a cell's line is that cell.
use mathlib.Core.Path.{◌≡◌, ap, ◌∙◌}
use mathlib.Core.List.{List}
use Prim.Native.Nat.{ℕ, ◌+◌, ◌*◌, ◌/◌, ◌%◌, ◌^◌, ◌<◌}
use native.Mathlib.Nat.{mul-le-mul_right, mul_assoc, mul-add-div_right, mul-add-mod_self_right, mod-eq_of_lt, div-eq_of_lt, div-add-mod', div-lt_iff_lt-mul, mod-lt}
use native.Mathlib.Omega.{arith}
use lib.ListN.{get_or}
use lib.Pow.{pow_pos}
use Rattle.plan.specs.Plan.{Plan, cells}
use Rattle.plan.proofs.LabelLaws.{four_pos}
use Rattle.rules.specs.declared.Line.{Line}
use Rattle.rules.specs.Lines.{cell_of, line_at}
use Rattle.rules.proofs.InRange.{InRange}
use Rattle.rules.proofs.Monotone.{waiting}

pub digit_lt : (q n A r : ℕ) → q < n → r < A → q * A + r < n * A
digit_lt q n A r h k = omega (arith, mul-le-mul_right A h)

pub digit_div : (q A r : ℕ) → r < A → (q * A + r) / A ≡ q
digit_div q A r h = let z : 0 < A = omega arith in mul-add-div_right z q r ∙ omega (arith, div-eq_of_lt h)

pub digit_mod : (q A r : ℕ) → r < A → (q * A + r) % A ≡ r
digit_mod q A r h = mul-add-mod_self_right q A r ∙ mod-eq_of_lt h

module _ (P : Plan) where
  pub cell_lt : (l : Line) → InRange P l → cell_of P l < cells P
  cell_lt l h = rw (← mul_assoc P.points (2 ^ P.links) (4 ^ P.propositions)) (digit_lt _ _ _ _ (digit_lt _ _ _ _ h.point_in h.set_in) h.label_in)

  -- the cell of a line in range holds that line, with the table's wait
  pub line_at_lem : (T : List ℕ) (l : Line) → InRange P l → line_at P T (cell_of P l) ≡ waiting l (get_or T (cell_of P l) 0)
  line_at_lem T l h = λ i. record { point = ((ap (λ (x : ℕ). x / A) high) ∙ digit_div l.point A l.set h.set_in) i; set = ((ap (λ (x : ℕ). x % A) high) ∙ digit_mod l.point A l.set h.set_in) i; label = digit_mod (l.point * A + l.set) B l.label h.label_in i; wait = get_or T (cell_of P l) 0 }
    where
      A : ℕ
      A = 2 ^ P.links

      B : ℕ
      B = 4 ^ P.propositions

      high : cell_of P l / B ≡ l.point * A + l.set
      high = digit_div (l.point * A + l.set) B l.label h.label_in

  pub cell_at : (T : List ℕ) (c : ℕ) → cell_of P (line_at P T c) ≡ c
  cell_at T c = rw (div-add-mod' (c / 4 ^ P.propositions) (2 ^ P.links), div-add-mod' c (4 ^ P.propositions))

  pub at_range : (T : List ℕ) (c : ℕ) → c < cells P → InRange P (line_at P T c)
  at_range T c h = record { point_in = (div-lt_iff_lt-mul (pow_pos _)).1 ((div-lt_iff_lt-mul (four_pos _)).1 (rw (mul_assoc P.points (2 ^ P.links) (4 ^ P.propositions)) h)); set_in = mod-lt _ (pow_pos _); label_in = mod-lt _ (four_pos _) }
