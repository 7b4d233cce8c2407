-- A step on the cells of one point that raises them by what the rules give makes those cells of the next table.
use mathlib.Core.Path.{◌≡◌, sym, ◌∙◌}
use mathlib.Core.Logic.{◌⊎◌, inl, inr}
use mathlib.Core.List.{List}
use Prim.Native.Nat.{ℕ, ◌+◌, ◌*◌, ◌≤◌, ◌<◌}
use native.Mathlib.Nat.{le_trans, le_antisymm, mul-le-mul_right}
use native.Mathlib.Omega.{arith}
use lib.ListN.{length, get_or, drop, length-take, length-drop}
use lib.Seq.{get_or-take, get_or-drop, ext_get_or}
use Rattle.plan.specs.Plan.{Plan, width, cells}
use Rattle.plan.proofs.Ranges.{WellFormed}
use Rattle.rules.specs.Tables.{lines_of, all_given, raised, next}
use Rattle.rules_fill.specs.Parts.{part}
use Rattle.rules.proofs.Raising.{Raises}
use Rattle.rules.proofs.Next.{FromTable, next_raises}

pub part_at : (P : Plan) (x : ℕ) (B : List ℕ) (t : ℕ) → t < width P → get_or (part P x B) t 0 ≡ get_or B (x * width P + t) 0
part_at P x B t h = get_or-take (width P) (drop (x * width P) B) t 0 h ∙ get_or-drop (x * width P) B t 0

pub part_length : (P : Plan) (x : ℕ) → x < P.points → (B : List ℕ) → length B ≡ cells P → length (part P x B) ≡ width P
part_length P x inside B l = simp (length-take, length-drop) (omega (arith, l, mul-le-mul_right (width P) inside))

-- the relation S of the step may differ from the rules' if each wait of one is at most a wait of the other
module _ (P : Plan) (wf : WellFormed P) (A : List ℕ) (len : length A ≡ cells P) (x : ℕ) (inside : x < P.points) (S : ℕ → ℕ → Type 0) (fill : List ℕ → List ℕ) (raises : Raises (width P) S fill)
    (only : (t w : ℕ) → S t w → (v : ℕ) × (w ≤ v) × FromTable P A (x * width P + t) v)
    (all : (t w : ℕ) → t < width P → FromTable P A (x * width P + t) w → (v : ℕ) × (w ≤ v) × S t v) where
  pub next_part_lem : part P x (next P A) ≡ fill (part P x A)
  unfolding next
  next_part_lem = ext_get_or 0 (part P x (next P A)) (fill (part P x A)) (part_length P x inside (next P A) (n.as_long A len) ∙ sym (raises.as_long (part P x A) (part_length P x inside A len))) (λ t h. at t (rw (part_length P x inside (next P A) (n.as_long A len)) at h))
    where
      n : Raises (cells P) (FromTable P A) (λ B. raised P B (all_given P (lines_of P A)))
      n = next_raises P wf A

      old : List ℕ
      old = part P x A

      up : (t : ℕ) → t < width P → (get_or (next P A) (x * width P + t) 0 ≡ get_or A (x * width P + t) 0) ⊎ FromTable P A (x * width P + t) (get_or (next P A) (x * width P + t) 0) → get_or (next P A) (x * width P + t) 0 ≤ get_or (fill old) t 0
      up t h (inl e) = rw e (rw (part_at P x A t h) at (raises.no_lower old (part_length P x inside A len) t))
      up t h (inr f) = let v = all t _ h f in le_trans v.1 (raises.covers old (part_length P x inside A len) t v.0 v.2)

      down : (t : ℕ) → t < width P → (get_or (fill old) t 0 ≡ get_or old t 0) ⊎ S t (get_or (fill old) t 0) → get_or (fill old) t 0 ≤ get_or (next P A) (x * width P + t) 0
      down t h (inl e) = rw (e, part_at P x A t h) (n.no_lower A len (x * width P + t))
      down t h (inr s) = let v = only t _ s in le_trans v.1 (n.covers A len (x * width P + t) v.0 v.2)

      at : (t : ℕ) → t < width P → get_or (part P x (next P A)) t 0 ≡ get_or (fill old) t 0
      at t h = part_at P x (next P A) t h ∙ le_antisymm (up t h (n.reason A len (x * width P + t))) (down t h (raises.reason old (part_length P x inside A len) t))
