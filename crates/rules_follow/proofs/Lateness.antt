-- The seconds by which the links of a set took longer than their least, added up.
use mathlib.Core.Path.{◌≡◌, refl, ap}
use mathlib.Core.Bool.{Bool, true, false, cond}
use mathlib.Core.Logic.{◌⊎◌, inl, inr}
use Prim.Native.Nat.{ℕ, zero, suc, ◌+◌, ◌-◌, ◌≤◌, ◌<◌}
use native.Mathlib.Nat.{le_refl}
use native.Mathlib.Decide.{ℕ_discrete}
use native.Mathlib.Omega.{arith}
use lib.Dec.{T as Is}
use Rattle.plan.specs.LinkSet.{contains}
use Rattle.plan.specs.Plan.{Plan}
use Rattle.plan.proofs.Truth.{is?, is_true}
use Rattle.rules.proofs.InRange.{none_in}
use Rattle.rules_panel.specs.Dramas.{AnyDuration, Drama}
use Rattle.rules_follow.specs.Following.{sum_over}

-- a link out of a set
abbrev pub Out : ℕ → ℕ → Type 0
Out D i = Is (contains D i) → ⊥

part_le : (b : Bool) (m : ℕ) → cond b m 0 ≤ m
part_le true m = le_refl _
part_le false m = omega arith

part_in : (b : Bool) (m : ℕ) → Is b → cond b m 0 ≡ m
part_in b m t = rw (is_true b t)

part_out : (b : Bool) (m : ℕ) → (Is b → ⊥) → cond b m 0 ≡ 0
part_out true m n = absurd (n tt)
part_out false m n = refl

part_more : (b c : Bool) (m : ℕ) → (Is b → Is c) → cond b m 0 ≤ cond c m 0
part_more true c m h = rw (is_true c (h tt)) (le_refl _)
part_more false c m h = omega arith

module _ (f : ℕ → ℕ) where
  sum_none : (n : ℕ) (D : ℕ) → ((i : ℕ) → i < n → Out D i) → sum_over f D n ≡ 0
  unfolding sum_over
  sum_none zero D h = refl
  sum_none (suc n) D h = omega (arith, sum_none n D (λ i k. h i (omega arith)), part_out (contains D n) (f n) (h n (omega arith)))

  pub sum_same : (g : ℕ → ℕ) (D n : ℕ) → ((i : ℕ) → i < n → Is (contains D i) → f i ≡ g i) → sum_over f D n ≡ sum_over g D n
  unfolding sum_over
  sum_same g D zero h = refl
  sum_same g D (suc n) h = go (is? (contains D n)) (sum_same g D n (λ i k. h i (omega arith)))
    where
      go : Is (contains D n) ⊎ (contains D n ≡ false) → sum_over f D n ≡ sum_over g D n → sum_over f D (suc n) ≡ sum_over g D (suc n)
      go (inl t) e = rw (e, h n (omega arith) t)
      go (inr o) e = rw (e, o)

  sum_le : (D E n : ℕ) → ((i : ℕ) → i < n → Is (contains D i) → Is (contains E i)) → sum_over f D n ≤ sum_over f E n
  unfolding sum_over
  sum_le D E zero h = le_refl _
  sum_le D E (suc n) h = omega (arith, sum_le D E n (λ i k. h i (omega arith)), part_more (contains D n) (contains E n) (f n) (h n (omega arith)))

  -- all but one link of D are in E
  pub sum_but : (D E i n : ℕ) → ((k : ℕ) → k < n → (k ≡ i → ⊥) → Is (contains D k) → Is (contains E k)) → sum_over f D n ≤ sum_over f E n + f i
  unfolding sum_over
  sum_but D E i zero h = omega arith
  sum_but D E i (suc n) h = go (ℕ_discrete n i) (sum_but D E i n (λ k l. h k (omega arith)))
    where
      go : Dec (n ≡ i) → sum_over f D n ≤ sum_over f E n + f i → sum_over f D (suc n) ≤ sum_over f E (suc n) + f i
      go (yes e) before = omega (arith, sum_le D E n (λ k l. h k (omega arith) (λ q. omega arith)), part_le (contains D n) (f n), ap f e)
      go (no e) before = omega (arith, before, part_more (contains D n) (contains E n) (f n) (h n (omega arith) e))

  -- D has all links of E and one more
  pub sum_more : (D E i n : ℕ) → Is (contains D i) → i < n → ((k : ℕ) → k < n → Is (contains E k) → Is (contains D k) × (k ≡ i → ⊥)) → sum_over f E n + f i ≤ sum_over f D n
  unfolding sum_over
  sum_more D E i zero t l h = absurd (omega arith)
  sum_more D E i (suc n) t l h = go (ℕ_discrete n i) (λ k. sum_more D E i n t k (λ k l. h k (omega arith)))
    where
      go : Dec (n ≡ i) → (i < n → sum_over f E n + f i ≤ sum_over f D n) → sum_over f E (suc n) + f i ≤ sum_over f D (suc n)
      go (yes e) before = omega (arith, sum_le E D n (λ k l q. (h k (omega arith) q).0), part_in (contains D n) (f n) (rw e t), part_out (contains E n) (f n) (λ q. (h n (omega arith) q).1 e), ap f e)
      go (no e) before = omega (arith, before (omega arith), part_more (contains E n) (contains D n) (f n) (λ q. (h n (omega arith) q).0))

-- ---- in a drama, whether the links have ended or not
module _ {P : Plan} (r : Drama P AnyDuration) where
  abbrev pub over : ℕ → ℕ
  over i = r.situation i - P.least i

  abbrev pub lateness : ℕ → ℕ
  lateness D = sum_over over D P.links

  -- nothing is late without links
  pub none_late : lateness 0 ≡ 0
  none_late = sum_none over P.links 0 (λ i h. none_in i)
