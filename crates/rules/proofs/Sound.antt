-- A line of the next table is reached if the lines of the table are, and a table that is its own next bounds every reached line.
use mathlib.Core.Path.{◌≡◌, refl, sym, ap, subst, ◌∙◌}
use mathlib.Core.Logic.{◌⊎◌, inl, inr}
use mathlib.Core.List.{List, []}
use Prim.Native.Nat.{ℕ, ◌≤◌, ◌<◌}
use native.Mathlib.Nat.{le_trans}
use lib.ListN.{get_or}
use Rattle.plan.specs.Plan.{Plan}
use Rattle.plan.proofs.Ranges.{WellFormed}
use Rattle.rules.specs.declared.Line.{Line}
use Rattle.rules.specs.Lines.{cell_of, line_at}
use Rattle.rules.specs.Derivations.{Given}
use Rattle.rules.proofs.Deriving.{given_map, Reached, reach, reached_all}
use Rattle.rules.proofs.InRange.{InRange, range, given_above}
use Rattle.rules.proofs.Monotone.{waiting, Longer, given_mono}
use Rattle.rules.proofs.Cells.{cell_lt, line_at_lem}
use Rattle.rules.proofs.Next.{Cell, FromTable, IsNext}

module _ (P : Plan) where
  -- every line of the table is one that some derivation has
  abbrev pub Sound : List ℕ → Type 0
  Sound A = (l : Line) → Cell P A l → Reached P l

  -- a line that waits no longer than its cell of the table
  pub record Under (A : List ℕ) (l : Line) : Type 0 where
    pub inside : InRange P l
    pub above : 0 < l.wait
    pub within : l.wait ≤ get_or A (cell_of P l) 0

  -- a cell is of one line only
  pub cell_one : (k l : Line) → InRange P k → InRange P l → cell_of P k ≡ cell_of P l → k.wait ≡ l.wait → k ≡ l
  cell_one k l a b e w = ap (λ (x : Line). waiting x k.wait) (sym (line_at_lem P [] k a) ∙ ap (line_at P []) e ∙ line_at_lem P [] l b) ∙ ap (waiting l) w

  module _ (wf : WellFormed P) where
    -- a line of the next table is a line of the table, or given from it
    pub next_cases : (A B : List ℕ) → IsNext P A B → (l : Line) → Cell P B l → Cell P A l ⊎ Given P (Cell P A) l
    next_cases A B n l h = go (n.reason (cell_of P l) (cell_lt P l h.inside))
      where
        go : (get_or B (cell_of P l) 0 ≡ get_or A (cell_of P l) 0) ⊎ FromTable P A (cell_of P l) (get_or B (cell_of P l) 0) → Cell P A l ⊎ Given P (Cell P A) l
        go (inl e) = inl (record { inside = h.inside; above = h.above; holds = sym e ∙ h.holds })
        go (inr r) = inr (subst (Given P (Cell P A)) (cell_one r.line l (range P wf (λ l c. c.inside) r.given_from) h.inside r.cell_is (r.wait_is ∙ h.holds)) r.given_from)

    pub sound_next : (A B : List ℕ) → IsNext P A B → Sound A → Sound B
    sound_next A B n s l h = go (next_cases A B n l h)
      where
        go : Cell P A l ⊎ Given P (Cell P A) l → Reached P l
        go (inl c) = s l c
        go (inr g) = reach P l (given_map s g)

    pub complete : (A : List ℕ) → IsNext P A A → (k : Line) → Reached P k → Under A k
    complete A n = reached_all P (Under A) step
      where
        longer : (l : Line) → Under A l → Longer P (Cell P A) l
        longer l u = record { to = get_or A (cell_of P l) 0; no_less = u.within; holds = record { inside = record { point_in = u.inside.point_in; set_in = u.inside.set_in; label_in = u.inside.label_in }; above = le_trans u.above u.within; holds = refl } }

        step : (k : Line) → Given P (Under A) k → Under A k
        step k g = let m = given_mono P (Under A) (Cell P A) longer k g in record { inside = range P wf (λ l u. u.inside) g; above = given_above P wf (Under A) (λ l u. u.above) g; within = le_trans m.no_less (n.covers (waiting k m.to) m.holds) }
