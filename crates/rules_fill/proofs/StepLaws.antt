-- Steps of a loop that raise cells of a table: under a test, one after the other, alike, idle and nested.
use mathlib.Core.Path.{◌≡◌, refl, sym, ap, subst, ◌∙◌}
use mathlib.Core.Bool.{Bool, true, false}
use mathlib.Core.Logic.{◌⊎◌, inl, inr}
use mathlib.Core.List.{List}
use Prim.Native.Nat.{ℕ, zero, suc, ◌+◌, ◌-◌, ◌*◌, ◌≤◌, ◌<◌}
use native.Mathlib.Nat.{le_refl, add-zero, add-suc, zero-mul, suc-mul}
use native.Mathlib.Decide.{ℕ_discrete}
use native.Mathlib.Numerals.{add-one}
use native.Mathlib.Omega.{arith}
use lib.Dec.{T as Is}
use Rattle.rules.proofs.Raising.{Raises, raises_then, raises_iff}
use Rattle.rules_fill.specs.Steps.{steps, when}

pub raises_when : (n : ℕ) (R : ℕ → ℕ → Type 0) (f : List ℕ → List ℕ) (b : Bool) → (Is b → Raises n R f) → Raises n (λ c w. Is b × R c w) (when b f)
unfolding when
raises_when n R f true r = let q = r tt in record { as_long = q.as_long; no_lower = q.no_lower; reason = λ A l c. ⊎-right (q.reason A l c); covers = λ A l c w x. q.covers A l c w x.1 }
  where
    ⊎-right : {X Y : Type 0} → X ⊎ Y → X ⊎ (Unit {0} × Y)
    ⊎-right (inl x) = inl x
    ⊎-right (inr y) = inr (tt, y)
raises_when n R f false r = record { as_long = λ A l. l; no_lower = λ A l c. le_refl _; reason = λ A l c. inl refl; covers = λ A l c w x. absurd x.0 }

pub record Some (R : ℕ → ℕ → ℕ → Type 0) (m c w : ℕ) : Type 0 where
  pub index : ℕ
  pub below : index < m
  pub holds : R index c w

pub raises_steps : (n : ℕ) (R : ℕ → ℕ → ℕ → Type 0) (f : ℕ → List ℕ → List ℕ) (m : ℕ) → ((i : ℕ) → i < m → Raises n (R i) (f i)) → Raises n (Some R m) (steps f m)
unfolding steps
raises_steps n R f zero h = record { as_long = λ A l. l; no_lower = λ A l c. le_refl _; reason = λ A l c. inl refl; covers = λ A l c w x. absurd (omega (arith, x.below)) }
raises_steps n R f (suc m) h = raises_iff n (λ c w. Some R m c w ⊎ R m c w) (Some R (suc m)) (steps f (suc m)) to back (raises_then n (Some R m) (R m) (steps f m) (f m) (raises_steps n R f m (λ i k. h i (omega arith))) (h m (omega arith)))
  where
    to : (c w : ℕ) → Some R m c w ⊎ R m c w → Some R (suc m) c w
    to c w (inl x) = record { index = x.index; below = omega (arith, x.below); holds = x.holds }
    to c w (inr x) = record { index = m; below = omega arith; holds = x }

    split : (c w : ℕ) (x : Some R (suc m) c w) → Dec (x.index ≡ m) → Some R m c w ⊎ R m c w
    split c w x (yes e) = inr (subst (λ (i : ℕ). R i c w) e x.holds)
    split c w x (no e) = inl (record { index = x.index; below = omega (arith, x.below); holds = x.holds })

    back : (c w : ℕ) → Some R (suc m) c w → Some R m c w ⊎ R m c w
    back c w x = split c w x (ℕ_discrete x.index m)

pub when_true : (b : Bool) (f : List ℕ → List ℕ) (A : List ℕ) → b ≡ true → f A ≡ when b f A
unfolding when
when_true b f A e = rw e

pub when_false : (b : Bool) (f : List ℕ → List ℕ) (A : List ℕ) → b ≡ false → A ≡ when b f A
unfolding when
when_false b f A e = rw e

pub steps_none : (f : ℕ → List ℕ → List ℕ) (A : List ℕ) → A ≡ steps f 0 A
unfolding steps
steps_none f A = refl

pub steps_more : (f : ℕ → List ℕ → List ℕ) (n : ℕ) (A : List ℕ) → f n (steps f n A) ≡ steps f (n + 1) A
unfolding steps
steps_more f n A = rw add-one

-- ---- loops: alike, idle, and nested
pub steps_alike : (f g : ℕ → List ℕ → List ℕ) (n : ℕ) → ((i : ℕ) → i < n → (A : List ℕ) → f i A ≡ g i A) → (A : List ℕ) → steps f n A ≡ steps g n A
unfolding steps
steps_alike f g zero h A = refl
steps_alike f g (suc n) h A = h n (omega arith) (steps f n A) ∙ ap (g n) (steps_alike f g n (λ i k B. h i (omega arith) B) A)

pub steps_idle : (f : ℕ → List ℕ → List ℕ) (n : ℕ) → ((i : ℕ) → i < n → (A : List ℕ) → f i A ≡ A) → (A : List ℕ) → steps f n A ≡ A
unfolding steps
steps_idle f zero h A = refl
steps_idle f (suc n) h A = h n (omega arith) (steps f n A) ∙ steps_idle f n (λ i k B. h i (omega arith) B) A

pub steps_add : (f : ℕ → List ℕ → List ℕ) (m n : ℕ) (A : List ℕ) → steps (λ i. f (m + i)) n (steps f m A) ≡ steps f (m + n) A
unfolding steps
steps_add f m zero A = rw add-zero
steps_add f m (suc n) A = ap (f (m + n)) (steps_add f m n A) ∙ rw add-suc

-- steps that change nothing are passed over
pub steps_pass : (f : ℕ → List ℕ → List ℕ) (lo hi : ℕ) → lo ≤ hi → ((c : ℕ) → lo ≤ c → c < hi → (A : List ℕ) → f c A ≡ A) → (A : List ℕ) → steps f hi A ≡ steps f lo A
steps_pass f lo hi h idle A =
    let e : lo + (hi - lo) ≡ hi = omega arith in
    rw e at (sym (steps_add f lo (hi - lo) A)) ∙ steps_idle (λ i. f (lo + i)) (hi - lo) (λ i k B. idle (lo + i) (omega arith) (omega arith) B) (steps f lo A)

pub steps_nested : (f : ℕ → List ℕ → List ℕ) (a b : ℕ) (A : List ℕ) → steps (λ s. steps (λ q. f (s * b + q)) b) a A ≡ steps f (a * b) A
unfolding steps
steps_nested f zero b A = rw zero-mul
steps_nested f (suc a) b A = ap (steps (λ q. f (a * b + q)) b) (steps_nested f a b A) ∙ steps_add f (a * b) b A ∙ rw suc-mul
