-- A part's ghost field says that its notes are right with no place of any of them; the places can be looked up.
use mathlib.Core.Path.{◌≡◌, subst}
use mathlib.Core.Logic.{◌⊎◌, inl, inr, ∥∥₁_elim, ∥∥₁_map}
use mathlib.Core.List.{List}
use Prim.Native.Nat.{ℕ, zero, suc, ◌+◌}
use native.Mathlib.Nat.{ℕ_set}
use mathlib.Core.HLevel.{⊥_prop}
use native.Mathlib.Bridge.{le_prop}
use native.Mathlib.Decide.{ℕ_discrete}
use native.Mathlib.Omega.{arith}
use lib.ListN.{get_or}
use Rattle.rules_listed.specs.Places.{Listed, Places}
use Rattle.rules_listed.specs.Notes.{Noted}

pub look_up : (L : List ℕ) (a n t : ℕ) → Listed L a n t ⊎ (Listed L a n t → ⊥)
look_up L a zero t = inr (λ l. omega (arith, l.below))
look_up L a (suc n) t = go (ℕ_discrete (get_or L (a + n) 0) t) (look_up L a n t)
  where
    go : Dec (get_or L (a + n) 0 ≡ t) → Listed L a n t ⊎ (Listed L a n t → ⊥) → Listed L a (suc n) t ⊎ (Listed L a (suc n) t → ⊥)
    go (yes e) s = inl (record { at = n; below = omega arith; is = e })
    go (no e) (inl l) = inl (record { at = l.at; below = omega (arith, l.below); is = l.is })
    go (no e) (inr f) = inr (λ l. back l (ℕ_discrete l.at n))
      where
        back : (l : Listed L a (suc n) t) → Dec (l.at ≡ n) → ⊥
        back l (yes q) = e (subst (λ (k : ℕ). get_or L (a + k) 0 ≡ t) q l.is)
        back l (no q) = f (record { at = l.at; below = omega (arith, l.below); is = l.is })

pub listed_had : (L : List ℕ) (a n t : ℕ) → ∥ Listed L a n t ∥₁ → Listed L a n t
listed_had L a n t h = go (look_up L a n t)
  where
    go : Listed L a n t ⊎ (Listed L a n t → ⊥) → Listed L a n t
    go (inl l) = l
    go (inr f) = absurd (∥∥₁_elim h ⊥_prop f)

pub places_had : {L : List ℕ} {a n w : ℕ} → ∥ Places L a n w ∥₁ → Places L a n w
places_had h = record { long = ∥∥₁_elim h le_prop (λ p. p.long); within = λ i k. ∥∥₁_elim h le_prop (λ p. p.within i k) }

pub noted_had : {w : ℕ} {F : List ℕ} {own : ℕ} {B N : List ℕ} {count : ℕ} → ∥ Noted w F own B N count ∥₁ → Noted w F own B N count
noted_had h =
    record {
      table_long = ∥∥₁_elim h le_prop (λ n. n.table_long);
      part_long = ∥∥₁_elim h le_prop (λ n. n.part_long);
      notes_long = ∥∥₁_elim h le_prop (λ n. n.notes_long);
      no_lower = λ c k. ∥∥₁_elim h le_prop (λ n. n.no_lower c k);
      count_is = ∥∥₁_elim h (ℕ_set _ _) (λ n. n.count_is);
      within = λ i k. ∥∥₁_elim h le_prop (λ n. n.within i k);
      all_noted = λ c k i. listed_had _ 0 _ c (∥∥₁_map h (λ n. n.all_noted c k i));
    }
