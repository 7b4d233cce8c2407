-- What a round is made from, as its functions' laws ask for it.
use mathlib.Core.Bool.{Bool, true, false}
use mathlib.Core.Logic.{◌⊎◌, inl, inr, ∥∥₁_elim, ∥∥₁_map}
use mathlib.Core.HLevel.{⊥_prop}
use mathlib.Core.List.{List}
use Prim.Native.Nat.{ℕ, ◌≤◌}
use native.Mathlib.Nat.{ℕ_set}
use native.Mathlib.Bridge.{le_prop}
use native.Mathlib.Decide.{dec_le}
use native.Mathlib.Omega.{arith}
use lib.Dec.{T as Is}
use Rattle.std.specs.Borrow.{MutBor}
use Rattle.plan.specs.Plan.{Plan}
use Rattle.rules_listed.specs.declared.part.Part.{Part}
use Rattle.rules_listed.specs.Places.{Listed}
use Rattle.rules_listed.specs.Parts.{MadePart, SamePart}
use Rattle.rules_listed.proofs.Going.{still_of}
use Rattle.rules_listed.proofs.Having.{look_up, listed_had, places_had}
use Rattle.rules_refill.specs.declared.refill.Refill.{Refill}
use Rattle.rules_refill.specs.Lists.{PointLists, Lists}
use Rattle.rules_refill.specs.Refills.{PartIn, PartLent}
use Rattle.rules_refill.specs.Lent.{RefillLent}

-- ---- a ghost field says what the lists are with no place of any of them; the places can be looked up
point_had : {w : ℕ} {A L counts : List ℕ} {y : ℕ} → ∥ PointLists w A L counts y ∥₁ → PointLists w A L counts y
point_had h =
    record {
      raised_places = places_had (∥∥₁_map h (λ l. l.raised_places));
      line_places = places_had (∥∥₁_map h (λ l. l.line_places));
      line_count = ∥∥₁_elim h (ℕ_set _ _) (λ l. l.line_count);
      all_lines = λ t k i. listed_had _ _ _ t (∥∥₁_map h (λ l. l.all_lines t k i));
    }

is_or_not : (b : Bool) → Is b ⊎ (Is b → ⊥)
is_or_not true = inl tt
is_or_not false = inr (λ i. i)

-- one of three facts, each of which can be looked up
one_had : (L : List ℕ) (a n t a' n' u : ℕ) (b : Bool) (v k : ℕ) → ∥ Listed L a n t ⊎ ((Is b × Listed L a' n' u) ⊎ (v ≤ k)) ∥₁ → Listed L a n t ⊎ ((Is b × Listed L a' n' u) ⊎ (v ≤ k))
one_had L a n t a' n' u b v k h = go (look_up L a n t) (is_or_not b) (look_up L a' n' u) (dec_le v k)
  where
    Goal : Type 0
    Goal = Listed L a n t ⊎ ((Is b × Listed L a' n' u) ⊎ (v ≤ k))

    none : (Listed L a n t → ⊥) → (Is b × Listed L a' n' u → ⊥) → (v ≤ k → ⊥) → Goal → ⊥
    none f g e (inl x) = f x
    none f g e (inr (inl x)) = g x
    none f g e (inr (inr x)) = e x

    go : Listed L a n t ⊎ (Listed L a n t → ⊥) → Is b ⊎ (Is b → ⊥) → Listed L a' n' u ⊎ (Listed L a' n' u → ⊥) → Dec (v ≤ k) → Goal
    go (inl x) i y d = inl x
    go (inr f) (inl i) (inl y) d = inr (inl (i, y))
    go (inr f) i y (yes d) = inr (inr d)
    go (inr f) (inr i) y (no d) = absurd (∥∥₁_elim h ⊥_prop (none f (λ z. i z.0) d))
    go (inr f) (inl i) (inr y) (no d) = absurd (∥∥₁_elim h ⊥_prop (none f (λ z. y z.1) d))

pub lists_had : {P : Plan} {A L counts : List ℕ} → ∥ Lists P A L counts ∥₁ → Lists P A L counts
lists_had h =
    record {
      counts_long = ∥∥₁_elim h le_prop (λ l. l.counts_long);
      of_point = λ y k. point_had (∥∥₁_map h (λ l. l.of_point y k));
      covered = record { given = λ x k r row t u ht hu g. one_had _ _ _ _ _ _ _ _ _ _ (∥∥₁_map h (λ l. l.covered.given x k r row t u ht hu g)) };
    }

-- ---- of one of its points
pub lent_of : (r : Refill) {p : Part} → PartIn r p → RefillLent r.plan.now r.marks.now r.horizon r.table.first.now r.table.lists.now r.table.counts.now r.rows.now r.table.width r.mask p.point
lent_of r o =
    let l = r.lent in
    record {
      accepted = l.accepted;
      marked = l.marked;
      horizon_far = l.horizon_far;
      bound = l.bound;
      long_first = l.long_first;
      lists_are = lists_had l.lists_are;
      rows_are = l.rows_are;
      numbers = l.numbers;
      point_in = omega (arith, o.point_in, l.points_are);
    }

-- a part that is made, and the same after a call
pub made_in : {r : Refill} {x : ℕ} {cells' notes : MutBor (List ℕ)} {p : Part} → PartLent r x cells'.now notes.now → MadePart r.table x cells' notes p → PartIn r p
made_in l m = record { point_in = omega (arith, m.point_is, l.point_in); part_of = m.part_of }

pub still_in : {r : Refill} {p q : Part} → PartIn r p → SamePart p q → PartIn r q
still_in o s = record { point_in = omega (arith, s.point, o.point_in); part_of = still_of o.part_of s }
