-- The rows with mark 1: they are in range, each is there, and one mark more adds its row at the end.
use mathlib.Core.Path.{◌≡◌, refl, sym, ap, ◌∙◌}
use mathlib.Core.Bool.{Bool, true, false, cond}
use mathlib.Core.List.{List, [], ◌∷◌, ◌++◌, append-nil}
use mathlib.Core.Logic.{◌⊎◌, inl, inr, ⊎_elim}
use Prim.Native.Nat.{ℕ, zero, suc, ◌+◌, ◌≤◌, ◌<◌}
use native.Mathlib.Nat.{add-zero, zero-add}
use native.Mathlib.Numerals.{add-one}
use native.Mathlib.Omega.{arith}
use lib.Dec.{eqb}
use lib.ListN.{length, get_or, take, replicate, length-replicate, get_or-replicate}
use lib.Seq.{take-suc, length-take-le}
use borrow.Author.Tests.{eqb-true, eq-eqb, ne_eqb}
use Rattle.plan.specs.Plan.{Plan}
use Rattle.plan_rows.specs.Rows.{marked_from, marked}
use Rattle.plan_rows.specs.RowBytes.{RowsIn}

-- ---- a list, and before it a number if a test holds
maybe_length : (b : Bool) (x : ℕ) (l : List ℕ) → length (cond b (x ∷ l) l) ≤ suc (length l)
maybe_length true x l = omega arith
maybe_length false x l = omega arith

maybe_has : (b : Bool) (x : ℕ) (l : List ℕ) (k : ℕ) → k < length l → (j : ℕ) × (j < length (cond b (x ∷ l) l)) × (get_or (cond b (x ∷ l) l) j 0 ≡ get_or l k 0)
maybe_has true x l k h = (suc k, omega arith, refl)
maybe_has false x l k h = (k, h, refl)

maybe_in : (b : Bool) (x : ℕ) (l : List ℕ) (k : ℕ) → k < length (cond b (x ∷ l) l) → ((b ≡ true) × (get_or (cond b (x ∷ l) l) k 0 ≡ x)) ⊎ ((j : ℕ) × (j < length l) × (get_or (cond b (x ∷ l) l) k 0 ≡ get_or l j 0))
maybe_in true x l zero h = inl (refl, refl)
maybe_in true x l (suc k) h = inr (k, omega arith, refl)
maybe_in false x l k h = inr (k, h, refl)

maybe_append : (b : Bool) (x : ℕ) (l s : List ℕ) → cond b (x ∷ (l ++ s)) (l ++ s) ≡ cond b (x ∷ l) l ++ s
maybe_append true x l s = refl
maybe_append false x l s = refl

-- ---- where the first mark is of row i
from_length : (i : ℕ) (ms : List ℕ) → length (marked_from i ms) ≤ length ms
unfolding marked_from
from_length i [] = omega arith
from_length i (m ∷ ms) = omega (arith, from_length (suc i) ms, maybe_length (eqb m 1) i (marked_from (suc i) ms))

from_in : (i : ℕ) (ms : List ℕ) (k : ℕ) → k < length (marked_from i ms) → (r : ℕ) × (r < length ms) × (get_or ms r 0 ≡ 1) × (get_or (marked_from i ms) k 0 ≡ i + r)
unfolding marked_from
from_in i [] k h = absurd (omega arith)
from_in i (m ∷ ms) k h =
    ⊎_elim (λ a. (0, omega arith, eqb-true m 1 a.0, a.1 ∙ sym (add-zero i)))
    (λ a. let f = from_in (suc i) ms a.0 a.1 in (suc f.0, omega (arith, f.1), f.2, omega (arith, a.2, f.3))) (maybe_in (eqb m 1) i (marked_from (suc i) ms) k h)

from_has : (i : ℕ) (ms : List ℕ) (r : ℕ) → r < length ms → get_or ms r 0 ≡ 1 → (k : ℕ) × (k < length (marked_from i ms)) × (get_or (marked_from i ms) k 0 ≡ i + r)
unfolding marked_from
from_has i [] r h e = absurd (omega arith)
from_has i (m ∷ ms) zero h e = rw (eq-eqb m 1 e) (0, omega arith, sym (add-zero i))
from_has i (m ∷ ms) (suc r) h e =
    let f = from_has (suc i) ms r (omega arith) e in
    let g = maybe_has (eqb m 1) i (marked_from (suc i) ms) f.0 f.1 in
    (g.0, g.1, omega (arith, g.2, f.2))

from_more : (i : ℕ) (ms : List ℕ) (m : ℕ) → marked_from i (ms ++ (m ∷ [])) ≡ marked_from i ms ++ cond (eqb m 1) ((i + length ms) ∷ []) []
unfolding marked_from
from_more i [] m = rw add-zero
from_more i (n ∷ ms) m =
    let e : suc i + length ms ≡ i + suc (length ms) = omega arith in
    ap (λ (l : List ℕ). cond (eqb n 1) (i ∷ l) l) (rw e at (from_more (suc i) ms m)) ∙ maybe_append (eqb n 1) i (marked_from (suc i) ms) (cond (eqb m 1) ((i + suc (length ms)) ∷ []) [])

-- ---- where it is of row 0
pub marked_length : (ms : List ℕ) → length (marked ms) ≤ length ms
marked_length ms = from_length 0 ms

pub marked_in : (ms : List ℕ) (i : ℕ) → i < length (marked ms) → (get_or (marked ms) i 0 < length ms) × (get_or ms (get_or (marked ms) i 0) 0 ≡ 1)
marked_in ms i h = let f = from_in 0 ms i h in let e : get_or (marked ms) i 0 ≡ f.0 = f.3 ∙ zero-add _ in rw e (f.1, f.2)

pub marked_has : (ms : List ℕ) (r : ℕ) → r < length ms → get_or ms r 0 ≡ 1 → (i : ℕ) × (i < length (marked ms)) × (get_or (marked ms) i 0 ≡ r)
marked_has ms r h e = let f = from_has 0 ms r h e in (f.0, f.1, f.2 ∙ zero-add r)

-- rows of a plan that has as many as there are marks
pub marked_rows_in : (P : Plan) (ms : List ℕ) → length ms ≡ P.edges → RowsIn P (marked ms)
marked_rows_in P ms e = rw (← e) (record { few = marked_length ms; row_in = λ i h. (marked_in ms i h).0 })

-- every row, where all are marked
pub all_marked : (n r : ℕ) → r < n → (i : ℕ) × (i < length (marked (replicate n 1))) × (get_or (marked (replicate n 1)) i 0 ≡ r)
all_marked n r h = marked_has (replicate n 1) r (rw length-replicate h) (get_or-replicate n r 1 0 h)

-- ---- the marks of the first rows, and one more: it is 1, or it is not
taken_more : (ms : List ℕ) (i : ℕ) → i < length ms → marked (take (i + 1) ms) ≡ marked (take i ms) ++ cond (eqb (get_or ms i 0) 1) (i ∷ []) []
taken_more ms i h =
    let e : 0 + length (take i ms) ≡ i = omega (arith, length-take-le i ms (omega arith)) in
    rw (add-one, take-suc ms i 0) (from_more 0 (take i ms) (get_or ms i 0) ∙ ap (λ (k : ℕ). marked (take i ms) ++ cond (eqb (get_or ms i 0) 1) (k ∷ []) []) e)

pub marked_more : (ms : List ℕ) (i : ℕ) → i < length ms → get_or ms i 0 ≡ 1 → marked (take (i + 1) ms) ≡ marked (take i ms) ++ (i ∷ [])
marked_more ms i h e = rw (eq-eqb (get_or ms i 0) 1 e) at (taken_more ms i h)

pub marked_same : (ms : List ℕ) (i : ℕ) → i < length ms → (get_or ms i 0 ≡ 1 → ⊥) → marked (take (i + 1) ms) ≡ marked (take i ms)
marked_same ms i h n = rw (ne_eqb (get_or ms i 0) 1 n) at (taken_more ms i h) ∙ append-nil (marked (take i ms))
