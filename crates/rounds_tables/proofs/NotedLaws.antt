-- Laws of notes: each noted place is a raised cell, since there are as many notes as raised cells and each of these is noted.
use mathlib.Core.Path.{◌≡◌, refl, sym, ap, subst, ◌∙◌}
use mathlib.Core.Bool.{Bool, true, false, cond, not, ◌&&◌}
use mathlib.Core.List.{List}
use Prim.Native.Nat.{ℕ, zero, suc, ◌+◌, ◌≤◌, ◌<◌}
use native.Mathlib.Nat.{zero-add}
use native.Mathlib.Decide.{ℕ_discrete}
use native.Mathlib.Omega.{arith}
use lib.Dec.{T as Is, eqb}
use lib.ListN.{get_or, drop}
use lib.Seq.{get_or-drop}
use borrow.Author.Tests.{eq-eqb, ne_eqb, eqb-false, not-true}
use Rattle.plan.proofs.Truth.{is_not}
use Rattle.rules_listed.specs.Places.{Listed, count_below}
use Rattle.rules_listed.specs.Notes.{raised_at, Noted}
use Rattle.rules_listed.proofs.Counting.{count_le, count_more}

-- ---- how many numbers pass a test
count_none : (f : ℕ → Bool) (n : ℕ) → ((i : ℕ) → i < n → Is (f i) → ⊥) → count_below f n ≡ 0
unfolding count_below
count_none f zero h = refl
count_none f (suc n) h = go (f n) refl (count_none f n (λ i k. h i (omega arith)))
  where
    go : (b : Bool) → f n ≡ b → count_below f n ≡ 0 → cond b (suc (count_below f n)) (count_below f n) ≡ 0
    go true e z = absurd (h n (omega arith) (subst Is (sym e) tt))
    go false e z = z

count_mono : (f g : ℕ → Bool) (n : ℕ) → ((i : ℕ) → i < n → Is (f i) → Is (g i)) → count_below f n ≤ count_below g n
unfolding count_below
count_mono f g zero h = omega arith
count_mono f g (suc n) h = go (f n) (g n) (h n (omega arith)) (count_mono f g n (λ i k. h i (omega arith)))
  where
    go : (a b : Bool) → (Is a → Is b) → count_below f n ≤ count_below g n → cond a (suc (count_below f n)) (count_below f n) ≤ cond b (suc (count_below g n)) (count_below g n)
    go true true k l = omega arith
    go true false k l = absurd (k tt)
    go false true k l = omega arith
    go false false k l = l

count_full : (f : ℕ → Bool) (n : ℕ) → n ≤ count_below f n → (i : ℕ) → i < n → f i ≡ true
unfolding count_below
count_full f zero h i k = absurd (omega arith)
count_full f (suc n) h i k = go (f n) refl h (λ l j. count_full f n l i j) (ℕ_discrete i n)
  where
    go : (b : Bool) → f n ≡ b → suc n ≤ cond b (suc (count_below f n)) (count_below f n) → (n ≤ count_below f n → i < n → f i ≡ true) → Dec (i ≡ n) → f i ≡ true
    go true e l r (yes q) = rw q e
    go true e l r (no q) = r (omega arith) (omega arith)
    go false e l r d = absurd (omega (arith, count_le f n))

-- a test but for one number
but : (ℕ → Bool) → ℕ → ℕ → Bool
but f c i = f i && not (eqb i c)

and_false : (b : Bool) → b && false ≡ false
and_false true = refl
and_false false = refl

and_true : (b : Bool) → b && true ≡ b
and_true true = refl
and_true false = refl

but_own : (f : ℕ → Bool) (c : ℕ) → but f c c ≡ false
unfolding but
but_own f c = rw (eq-eqb c c refl) (and_false (f c))

but_other : (f : ℕ → Bool) (c i : ℕ) → (i ≡ c → ⊥) → but f c i ≡ f i
unfolding but
but_other f c i d = rw (ne_eqb i c d) (and_true (f i))

-- each number that passes is among the k numbers N 0, N 1, ..: no more pass than those of the k that do
pub covered : (N : ℕ → ℕ) (w k : ℕ) (f : ℕ → Bool) → ((i : ℕ) → i < k → N i < w) → ((c : ℕ) → c < w → Is (f c) → (j : ℕ) × (j < k) × (N j ≡ c)) → count_below f w ≤ count_below (λ i. f (N i)) k
unfolding count_below
covered N w zero f low cover = omega (arith, count_none f w (λ c h p. let r = cover c h p in omega (arith, r.1)))
covered N w (suc k) f low cover = go (f (N k)) refl (covered N w k f low_less) (covered N w k (but f (N k)) low_less drop_one)
  where
    low_less : (i : ℕ) → i < k → N i < w
    low_less i h = low i (omega arith)

    less : (c : ℕ) → (c ≡ N k → ⊥) → (j : ℕ) × (j < suc k) × (N j ≡ c) → (j : ℕ) × (j < k) × (N j ≡ c)
    less c d r = pick r.0 r.1 r.2 (ℕ_discrete r.0 k)
      where
        pick : (j : ℕ) → j < suc k → N j ≡ c → Dec (j ≡ k) → (j : ℕ) × (j < k) × (N j ≡ c)
        pick j h e (yes q) = absurd (d (sym e ∙ ap N q))
        pick j h e (no q) = (j, omega arith, e)

    drop_one : (c : ℕ) → c < w → Is (but f (N k) c) → (j : ℕ) × (j < k) × (N j ≡ c)
    drop_one c h p = pick (ℕ_discrete c (N k))
      where
        pick : Dec (c ≡ N k) → (j : ℕ) × (j < k) × (N j ≡ c)
        pick (yes q) = absurd (is_not (ap (but f (N k)) q ∙ but_own f (N k)) p)
        pick (no q) = less c q (cover c h (subst Is (but_other f (N k) c q) p))

    weaker : (i : ℕ) → i < k → Is (but f (N k) (N i)) → Is (f (N i))
    weaker i h p = pick (ℕ_discrete (N i) (N k))
      where
        pick : Dec (N i ≡ N k) → Is (f (N i))
        pick (yes q) = absurd (is_not (ap (but f (N k)) q ∙ but_own f (N k)) p)
        pick (no q) = subst Is (but_other f (N k) (N i) q) p

    go : (b : Bool) → f (N k) ≡ b → (((c : ℕ) → c < w → Is (f c) → (j : ℕ) × (j < k) × (N j ≡ c)) → count_below f w ≤ count_below (λ i. f (N i)) k) → count_below (but f (N k)) w ≤ count_below (λ i. but f (N k) (N i)) k
        → count_below f w ≤ cond b (suc (count_below (λ i. f (N i)) k)) (count_below (λ i. f (N i)) k)
    go true e all rest = omega (arith, count_more (but f (N k)) f (N k) w (low k (omega arith)) (but_own f (N k)) e (but_other f (N k)), count_mono (λ i. but f (N k) (N i)) (λ i. f (N i)) k weaker)
    go false e all rest = all (λ c h p. less c (λ q. is_not (ap f q ∙ e) p) (cover c h p))

-- ---- notes
module _ (w : ℕ) (F : List ℕ) (own : ℕ) (B N : List ℕ) (count : ℕ) (noted : Noted w F own B N count) where
  pub notes_few : count ≤ w
  notes_few = omega (arith, noted.count_is, count_le (raised_at F own B) w)

  find : (c : ℕ) → c < w → Is (raised_at F own B c) → (j : ℕ) × (j < count) × (get_or N j 0 ≡ c)
  find c h p = let l = noted.all_noted c h p in (l.at, l.below, rw zero-add at l.is)

  is_raised_lem : (i : ℕ) → i < count → raised_at F own B (get_or N i 0) ≡ true
  is_raised_lem = count_full (λ i. raised_at F own B (get_or N i 0)) count (omega (arith, noted.count_is, covered (λ i. get_or N i 0) w count (raised_at F own B) noted.within find))

  pub is_higher : (i : ℕ) → i < count → get_or F (own + get_or N i 0) 0 < get_or B (get_or N i 0) 0
  unfolding raised_at
  is_higher i h =
      let d : get_or B (get_or N i 0) 0 ≡ get_or F (own + get_or N i 0) 0 → ⊥ = eqb-false _ _ (not-true _ (is_raised_lem i h)) in
      omega (arith, noted.no_lower (get_or N i 0) (noted.within i h))

-- the n notes from entry base on, of the w cells from base on that a table S has above a table T
pub record NotedAt (w : ℕ) (S T notes : List ℕ) (base n : ℕ) : Type 0 where
  pub few : n ≤ w
  pub within : (i : ℕ) → i < n → get_or notes (base + i) 0 < w
  pub higher : (i : ℕ) → i < n → get_or T (base + get_or notes (base + i) 0) 0 < get_or S (base + get_or notes (base + i) 0) 0
  pub all : (t : ℕ) → t < w → (get_or S (base + t) 0 ≡ get_or T (base + t) 0 → ⊥) → Listed notes base n t

pub noted_at : (w : ℕ) (S T notes : List ℕ) (base n : ℕ) → Noted w T base (drop base S) (drop base notes) n → NotedAt w S T notes base n
unfolding raised_at
noted_at w S T notes base n noted = record { few = notes_few w T base _ _ n noted; within = within; higher = higher; all = all }
  where
    note_at : (i : ℕ) → get_or (drop base notes) i 0 ≡ get_or notes (base + i) 0
    note_at i = get_or-drop base notes i 0

    within : (i : ℕ) → i < n → get_or notes (base + i) 0 < w
    within i h = omega (arith, note_at i, noted.within i h)

    higher : (i : ℕ) → i < n → get_or T (base + get_or notes (base + i) 0) 0 < get_or S (base + get_or notes (base + i) 0) 0
    higher i h = rw (← (get_or-drop base S (get_or notes (base + i) 0) 0)) (rw (note_at i) at (is_higher w T base (drop base S) (drop base notes) n noted i h))

    all : (t : ℕ) → t < w → (get_or S (base + t) 0 ≡ get_or T (base + t) 0 → ⊥) → Listed notes base n t
    all t h d =
        let l = noted.all_noted t h (subst Is (sym (ap not (ne_eqb (get_or (drop base S) t 0) (get_or T (base + t) 0) (λ q. d (sym (get_or-drop base S t 0) ∙ q))))) tt) in
        record { at = l.at; below = l.below; is = sym (note_at l.at) ∙ rw zero-add at l.is }
