-- Laws of lent tables: what the loops over cells find, the first cells laid over a table, and a round point by point.
use mathlib.Core.Path.{◌≡◌, refl, sym, ap, ap₂, ◌∙◌}
use mathlib.Core.Bool.{Bool, true, false}
use mathlib.Core.Logic.{◌⊎◌, inl, inr}
use mathlib.Core.List.{List, ◌++◌}
use Prim.Native.Nat.{ℕ, zero, suc, ◌+◌, ◌*◌, ◌-◌, ◌≤◌, ◌<◌}
use native.Mathlib.Nat.{le_refl, add-zero, suc-mul, mul-le-mul_right}
use native.Mathlib.Numerals.{add-one}
use native.Mathlib.Omega.{arith}
use borrow.Rule.Slice.PartMut.{put_mid, same_len_mid}
use lib.ListN.{length, get_or, take, drop, replicate, set, length-take, length-drop, length-replicate, get_or-replicate}
use lib.Seq.{take-suc, take-take, length-take-le, get_or-take, take_all}
use Rattle.plan.specs.Plan.{Plan, width, cells}
use Rattle.plan.specs.Layout.{plan_of}
use Rattle.plan.specs.Horizons.{plan_with}
use Rattle.plan.proofs.Ranges.{WellFormed}
use Rattle.plan.proofs.Horizons.{with_well_formed}
use Rattle.rules.specs.Tables.{next}
use Rattle.rules_fill.specs.Parts.{next_cells, AtMost, laid_over, next_part}
use Rattle.rules.proofs.Next.{next_is}
use Rattle.rules_fill.proofs.ShapeLaws.{row_in}
use Rattle.rules_fill.specs.Lent.{Lent}
use Rattle.rules_fill.proofs.Laying.{laid_more, lent_part, laid_part_back}
use Rattle.rounds_tables.specs.Cells.{same, any_above}
use Rattle.rounds_points.specs.PointSets.{In}
use Rattle.rounds_tables.specs.Ready.{Ready, SameOutside, Compared}
use Rattle.rounds_tables.proofs.Comparing.{same_eq, none_above, some_above}

-- ---- what the loops find
-- one cell more agrees
pub alike_more : (A B : List ℕ) (k : ℕ) → k < length A → k < length B → take k A ≡ take k B → get_or A k 0 ≡ get_or B k 0 → take (k + 1) A ≡ take (k + 1) B
alike_more A B k h j e d = rw (add-one, take-suc A k 0, take-suc B k 0, e, d)

-- a row of cells more agrees
pub alike_row : (A B : List ℕ) (k w : ℕ) → k + w ≤ length A → k + w ≤ length B → take k A ≡ take k B → ((t : ℕ) → t < w → get_or A (k + t) 0 ≡ get_or B (k + t) 0) → take (k + w) A ≡ take (k + w) B
alike_row A B k zero h j e d = simp add-zero e
alike_row A B k (suc w) h j e d =
    let s : k + w + 1 ≡ k + suc w = omega arith in
    rw s at (alike_more A B (k + w) (omega arith) (omega arith) (alike_row A B k w (omega arith) (omega arith) e (λ t l. d t (omega arith))) (d w (omega arith)))

-- a cell differs
pub differs_at : (A B : List ℕ) (n k : ℕ) → k < n → (get_or A k 0 ≡ get_or B k 0 → ⊥) → same (take n A) (take n B) ≡ false
differs_at A B n k h d = go (same (take n A) (take n B)) refl
  where
    go : (b : Bool) → same (take n A) (take n B) ≡ b → b ≡ false
    go true e = absurd (d (sym (get_or-take n A k 0 h) ∙ ap (λ (l : List ℕ). get_or l k 0) (same_eq (take n A) (take n B) e) ∙ get_or-take n B k 0 h))
    go false e = refl

-- a point's row of cells lies within the table, and ends where the next begins
pub row_within : (x n w : ℕ) → x < n → x * w + w ≤ n * w
row_within x n w h = rw suc-mul at (mul-le-mul_right w h)

pub row_end : (x w : ℕ) → x * w + w ≡ (x + 1) * w
row_end x w = rw (add-one, suc-mul)

-- how many cells of a point are compared, and that then the point's cells agree
pub compared_most : {set x w k : ℕ} → Compared set x w k → k ≤ w
compared_most {set} {x} {w} {k} c = go c.all_or_none
  where
    go : (k ≡ w) ⊎ ((k ≡ 0) × (In set x → ⊥)) → k ≤ w
    go (inl e) = omega arith
    go (inr e) = omega (arith, e.0)

pub point_passed : (A B : List ℕ) (n w set x k t : ℕ) → SameOutside n w A B set → x < n → n * w ≤ length A → n * w ≤ length B → Compared set x w k → t ≡ k → take (x * w + t) A ≡ take (x * w + t) B → take ((x + 1) * w) A ≡ take ((x + 1) * w) B
point_passed A B n w set x k t o h la lb c e d = go c.all_or_none
  where
    end : x * w + w ≡ (x + 1) * w
    end = row_end x w

    inside : x * w + w ≤ n * w
    inside = row_within x n w h

    go : (k ≡ w) ⊎ ((k ≡ 0) × (In set x → ⊥)) → take ((x + 1) * w) A ≡ take ((x + 1) * w) B
    go (inl q) = let r : x * w + t ≡ (x + 1) * w = omega (arith, end) in rw r at d
    go (inr q) =
        let r : x * w + t ≡ x * w = omega (arith, q.0) in
        rw end at (alike_row A B (x * w) w (omega (arith, inside)) (omega (arith, inside)) (rw r at d) (λ u l. o.cell x u h l q.1))

-- a cell is above 0
pub above_at : (A : List ℕ) (n k : ℕ) → k < n → (get_or A k 0 ≡ 0 → ⊥) → any_above (take n A) ≡ true
above_at A n k h d = go (any_above (take n A)) refl
  where
    go : (b : Bool) → any_above (take n A) ≡ b → b ≡ true
    go true e = refl
    go false e = absurd (d (sym (get_or-take n A k 0 h) ∙ none_above (take n A) e k))

-- no cell is
pub above_nowhere : (A : List ℕ) (n : ℕ) → ((k : ℕ) → k < n → get_or A k 0 ≡ 0) → any_above (take n A) ≡ false
above_nowhere A n z = go (any_above (take n A)) refl
  where
    go : (b : Bool) → any_above (take n A) ≡ b → b ≡ false
    go true e =
        let t = some_above (take n A) e in
        let h : t.0 < n = omega (arith, t.1, length-take n A) in
        absurd (omega (arith, t.2, get_or-take n A t.0 0 h, z t.0 h))
    go false e = refl

-- ---- the first cells laid over a table
-- zeros
pub laid_zeros : (n : ℕ) (B Z : List ℕ) → n ≤ length B → Z ≡ replicate (length (take n B)) 0 → Z ++ drop n B ≡ laid_over n (replicate n 0) B
unfolding laid_over
laid_zeros n B Z h e = ap (λ (l : List ℕ). l ++ drop n B) (e ∙ ap (λ (m : ℕ). replicate m 0) (length-take-le n B h) ∙ sym (take_all n (replicate n 0) (rw length-replicate (omega arith))))

-- one cell more is cleared
pub laid_cleared : (n c : ℕ) (B C : List ℕ) → c < n → c < length B → C ≡ laid_over c (replicate n 0) B → set C c 0 ≡ laid_over (c + 1) (replicate n 0) B
laid_cleared n c B C h k e = ap₂ (λ (l : List ℕ) (v : ℕ). set l c v) e (sym (get_or-replicate n c 0 0 h)) ∙ laid_more c (replicate n 0) B (rw length-replicate h) k

-- ---- a round, point by point
-- a point's row lies within the cells
pub next_length : (P : Plan) → WellFormed P → (F : List ℕ) → cells P ≤ length F → length (next_cells P F) ≡ cells P
next_length P wf F h = let e = length-take-le (cells P) F h in (next_is P wf (take (cells P) F) e).as_long ∙ e

-- where a loop over the points stands at point x: the code's numbers w and e are the cells of a point and the cells; the second table was B, and is C
pub record AtPoint (bs : List ℕ) (h : ℕ) (F B : List ℕ) (w e x : ℕ) (C : List ℕ) : Type 0 where
  pub width_is : w ≡ width (plan_of bs)
  pub cells_is : e ≡ cells (plan_of bs)
  pub x_in : x < (plan_of bs).points
  pub row : x * w + w ≤ length C
  -- the cells of the first table are lent, and the part of the second that starts at the point's first cell
  pub cut : e ≡ length (take e F)
  pub lent : Lent bs (take e F) (take (length C - x * w) (drop (x * w) C))
  pub laid : C ≡ laid_over (x * w) (next_cells (plan_with bs h) F) B
  -- a part with the point's next cells lays them over
  pub more : (Y : List ℕ) → Y ≡ next_part (plan_with bs h) x (take e F) (take (length C - x * w) (drop (x * w) C)) → put_mid (x * w) (length C - x * w) C Y ≡ laid_over ((x + 1) * w) (next_cells (plan_with bs h) F) B
  pub as_long : (Y : List ℕ) → length Y ≡ length (take (length C - x * w) (drop (x * w) C)) → length (put_mid (x * w) (length C - x * w) C Y) ≡ length B

module _ (bs M : List ℕ) (h : ℕ) (F B : List ℕ) (ready : Ready bs M h F B) where
  pub at_point : AtMost 4000000000 (take (cells (plan_of bs)) F) → (n w e x : ℕ) (C : List ℕ) → n ≡ (plan_of bs).points → w ≡ width (plan_of bs) → e ≡ cells (plan_of bs) → x < n
      → C ≡ laid_over (x * w) (next_cells (plan_with bs h) F) B → length C ≡ length B → AtPoint bs h F B w e x C
  unfolding laid_over
  at_point bound n w e x C en ew ee x_in laid long = record { width_is = ew; cells_is = ee; x_in = x_inside; row = within; cut = cut_is; lent = lent_is; laid = laid; more = more_is; as_long = λ Y h. same_len_mid (x * w) (length C - x * w) C Y h ∙ long }
    where
      P : Plan
      P = plan_with bs h

      N : List ℕ
      N = next_cells P F

      x_inside : x < P.points
      x_inside = omega arith

      in_cells : x * w + w ≤ cells P
      in_cells = row_in P x (cells P) w x x_inside (le_refl (cells P)) ew refl

      within : x * w + w ≤ length C
      within = omega (arith, in_cells, ready.long_second)

      cut_is : e ≡ length (take e F)
      cut_is = sym (length-take-le e F (omega (arith, ready.long_first)))

      lent_is : Lent bs (take e F) (take (length C - x * w) (drop (x * w) C))
      lent_is = record { accepted = ready.accepted; bound = rw ee bound; long_first = omega (arith, cut_is); long_part = rw (← ew) (simp (lent_part, length-drop) (omega (arith, within))) }

      more_is : (Y : List ℕ) → Y ≡ next_part P x (take e F) (take (length C - x * w) (drop (x * w) C)) → put_mid (x * w) (length C - x * w) C Y ≡ laid_over ((x + 1) * w) N B
      more_is Y ey =
          let sized : length N ≡ cells P = next_length P (with_well_formed bs ready.accepted h ready.horizon_far) F ready.long_first in
          let same_cut : take (cells P) (take e F) ≡ take (cells P) F = take-take (cells P) e F (omega arith) in
          laid_part_back (x * w) w N B C Y (omega (arith, in_cells)) (omega (arith, in_cells, ready.long_second)) laid (ey ∙ ap₂ (λ (v : ℕ) (A : List ℕ). take v (drop (x * v) (next P A)) ++ drop v (take (length C - x * w) (drop (x * w) C))) (sym ew) same_cut) ∙ ap (λ (m : ℕ). laid_over m N B) (row_end x w)

-- the code's numbers n and w are the points and the cells of a point
pub all_laid : (P : Plan) (N B C : List ℕ) (x n w : ℕ) → x ≡ n → n ≡ P.points → w ≡ width P → C ≡ laid_over (x * w) N B → C ≡ laid_over (cells P) N B
all_laid P N B C x n w e en ew laid = laid ∙ ap (λ (m : ℕ). laid_over m N B) (ap₂ (λ (a b : ℕ). a * b) (e ∙ en) ew)
