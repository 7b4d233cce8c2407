-- A loop over listed places makes what the loop over all places makes, where what the others give is no more than the part holds.
use mathlib.Core.Path.{◌≡◌, refl, sym, subst, ◌∙◌}
use mathlib.Core.Logic.{◌⊎◌, inl, inr}
use mathlib.Core.List.{List}
use Prim.Native.Nat.{ℕ, ◌+◌, ◌≤◌, ◌<◌}
use native.Mathlib.Nat.{le_refl, le_trans, le_antisymm}
use lib.ListN.{length, get_or}
use lib.Seq.{ext_get_or}
use Rattle.rules.specs.Tables.{raise_cell}
use Rattle.rules.proofs.Raising.{Raises, raises_cell, raises_then}
use Rattle.rules_fill.specs.Steps.{steps}
use Rattle.rules_fill.proofs.StepLaws.{Some, raises_steps, steps_alike}
use Rattle.rules_listed.specs.Places.{Listed, Places, listed}

pub listed_alike : (f g : ℕ → List ℕ → List ℕ) (L : List ℕ) (a n : ℕ) → ((t : ℕ) (A : List ℕ) → f t A ≡ g t A) → (A : List ℕ) → listed f L a n A ≡ listed g L a n A
unfolding listed
listed_alike f g L a n h A = steps_alike _ _ n (λ i k B. h (get_or L (a + i) 0) B) A

-- ---- what it raises
abbrev pub SomeListed : (ℕ → ℕ → ℕ → Type 0) → List ℕ → ℕ → ℕ → ℕ → ℕ → Type 0
SomeListed R L a n = Some (λ i. R (get_or L (a + i) 0)) n

pub raises_listed : (m : ℕ) (R : ℕ → ℕ → ℕ → Type 0) (f : ℕ → List ℕ → List ℕ) (L : List ℕ) (a n w : ℕ) → Places L a n w → ((t : ℕ) → t < w → Raises m (R t) (f t)) → Raises m (SomeListed R L a n) (listed f L a n)
unfolding listed
raises_listed m R f L a n w p r = raises_steps m (λ i. R (get_or L (a + i) 0)) (λ i. f (get_or L (a + i) 0)) n (λ i h. r _ (p.within i h))

-- a listed place is a place, and a place that is listed has its entry
pub listed_some : (R : ℕ → ℕ → ℕ → Type 0) (L : List ℕ) (a n w c v : ℕ) → Places L a n w → SomeListed R L a n c v → Some R w c v
listed_some R L a n w c v p x = record { index = get_or L (a + x.index) 0; below = p.within x.index x.below; holds = x.holds }

pub some_listed : (R : ℕ → ℕ → ℕ → Type 0) (L : List ℕ) (a n t c v : ℕ) → Listed L a n t → R t c v → SomeListed R L a n c v
some_listed R L a n t c v l x = record { index = l.at; below = l.below; holds = subst (λ (k : ℕ). R k c v) (sym l.is) x }

-- ---- two steps that make one table of it
-- a wait that the relation gives the cell, or that the table has there, outdoes w
abbrev pub Outdone : (ℕ → ℕ → Type 0) → List ℕ → ℕ → ℕ → Type 0
Outdone S A c w = (w ≤ get_or A c 0) ⊎ ((v : ℕ) × (w ≤ v) × S c v)

-- two steps, each of whose relations is outdone by the other's or by the table itself
pub same_raise_at : (n : ℕ) (R S : ℕ → ℕ → Type 0) (f g : List ℕ → List ℕ) → Raises n R f → Raises n S g → (A : List ℕ) → length A ≡ n
    → ((c w : ℕ) → R c w → Outdone S A c w) → ((c w : ℕ) → S c w → Outdone R A c w) → f A ≡ g A
same_raise_at n R S f g r s A l to back = ext_get_or 0 (f A) (g A) (r.as_long A l ∙ sym (s.as_long A l)) (λ c h. le_antisymm (le c r s to (r.reason A l c)) (le c s r back (s.reason A l c)))
  where
    by : {S : ℕ → ℕ → Type 0} {g : List ℕ → List ℕ} (c w : ℕ) → Raises n S g → Outdone S A c w → w ≤ get_or (g A) c 0
    by c w s (inl h) = le_trans h (s.no_lower A l c)
    by c w s (inr t) = le_trans t.1 (s.covers A l c t.0 t.2)

    le : {R S : ℕ → ℕ → Type 0} {f g : List ℕ → List ℕ} (c : ℕ) → Raises n R f → Raises n S g → ((c w : ℕ) → R c w → Outdone S A c w) → (get_or (f A) c 0 ≡ get_or A c 0) ⊎ R c (get_or (f A) c 0) → get_or (f A) c 0 ≤ get_or (g A) c 0
    le c r s to (inl e) = rw e (s.no_lower A l c)
    le c r s to (inr x) = by c _ s (to c _ x)

-- ---- one list: the step at place t raises cell (d t) to (v t)
module _ (d v : ℕ → ℕ) (w : ℕ) (L : List ℕ) (a n : ℕ) (B : List ℕ) where
  abbrev step : ℕ → List ℕ → List ℕ
  step t = raise_cell (d t) (v t)

  abbrev gives : ℕ → ℕ → ℕ → Type 0
  gives t c k = (c ≡ d t) × (k ≡ v t)

  pub listed_all : ((t : ℕ) → t < w → d t < length B) → Places L a n w → ((t : ℕ) → t < w → Listed L a n t ⊎ (v t ≤ get_or B (d t) 0)) → listed step L a n B ≡ steps step w B
  listed_all inside p rest =
      same_raise_at (length B) (SomeListed gives L a n) (Some gives w) (listed step L a n) (steps step w)
      (raises_listed (length B) gives step L a n w p (λ t h. raises_cell (length B) _ _ (inside t h)))
      (raises_steps (length B) gives step w (λ t h. raises_cell (length B) _ _ (inside t h)))
      B refl
      (λ c k x. inr (k, le_refl k, listed_some gives L a n w c k p x))
      (λ c k x. back c k x (rest x.index x.below))
    where
      back : (c k : ℕ) (x : Some gives w c k) → Listed L a n x.index ⊎ (v x.index ≤ get_or B (d x.index) 0) → Outdone (SomeListed gives L a n) B c k
      back c k x (inl l) = inr (k, le_refl k, some_listed gives L a n x.index c k l x.holds)
      back c k x (inr h) = inl (rw (x.holds.0, x.holds.1) h)

-- ---- pairs: the step at places t and u raises cell (d t u) to (v t u)
module _ (d v : ℕ → ℕ → ℕ) (w : ℕ) (L : List ℕ) (a n b m : ℕ) (a' n' b' m' : ℕ) (B : List ℕ) where
  abbrev step_of_pair : ℕ → ℕ → List ℕ → List ℕ
  step_of_pair t u = raise_cell (d t u) (v t u)

  abbrev pair_gives : ℕ → ℕ → ℕ → ℕ → Type 0
  pair_gives t u c k = (c ≡ d t u) × (k ≡ v t u)

  -- all pairs; those of the first two lists; those of the last two, the other way round
  abbrev AllPairs : ℕ → ℕ → Type 0
  AllPairs = Some (λ t. Some (pair_gives t) w) w

  abbrev Pairs : ℕ → ℕ → Type 0
  Pairs = SomeListed (λ t. SomeListed (pair_gives t) L b m) L a n

  abbrev PairsBack : ℕ → ℕ → Type 0
  PairsBack = SomeListed (λ u. SomeListed (λ t. pair_gives t u) L b' m') L a' n'

  pub pairs_all : ((t u : ℕ) → t < w → u < w → d t u < length B) → Places L a n w → Places L b m w → Places L a' n' w → Places L b' m' w
      → ((t u : ℕ) → t < w → u < w → (Listed L a n t × Listed L b m u) ⊎ ((Listed L a' n' u × Listed L b' m' t) ⊎ (v t u ≤ get_or B (d t u) 0)))
      → listed (λ u. listed (λ t. step_of_pair t u) L b' m') L a' n' (listed (λ t. listed (step_of_pair t) L b m) L a n B) ≡ steps (λ t. steps (step_of_pair t) w) w B
  pairs_all inside p q p' q' rest =
      same_raise_at (length B) (λ c k. Pairs c k ⊎ PairsBack c k) AllPairs (λ A. listed (λ u. listed (λ t. step_of_pair t u) L b' m') L a' n' (listed (λ t. listed (step_of_pair t) L b m) L a n A)) (steps (λ t. steps (step_of_pair t) w) w)
      (raises_then (length B) Pairs PairsBack (listed (λ t. listed (step_of_pair t) L b m) L a n) (listed (λ u. listed (λ t. step_of_pair t u) L b' m') L a' n')
      (raises_listed (length B) _ _ L a n w p (λ t h. raises_listed (length B) (pair_gives t) (step_of_pair t) L b m w q (λ u k. one t u h k)))
      (raises_listed (length B) _ _ L a' n' w p' (λ u h. raises_listed (length B) (λ t. pair_gives t u) (λ t. step_of_pair t u) L b' m' w q' (λ t k. one t u k h))))
      (raises_steps (length B) (λ t. Some (pair_gives t) w) (λ t. steps (step_of_pair t) w) w (λ t h. raises_steps (length B) (pair_gives t) (step_of_pair t) w (λ u k. one t u h k)))
      B refl to (λ c k x. back c k x (rest x.index x.holds.index x.below x.holds.below))
    where
      one : (t u : ℕ) → t < w → u < w → Raises (length B) (pair_gives t u) (step_of_pair t u)
      one t u h k = raises_cell (length B) _ _ (inside t u h k)

      to : (c k : ℕ) → Pairs c k ⊎ PairsBack c k → Outdone AllPairs B c k
      to c k (inl x) = inr (k, le_refl k, record { index = get_or L (a + x.index) 0; below = p.within x.index x.below; holds = listed_some (pair_gives (get_or L (a + x.index) 0)) L b m w c k q x.holds })
      to c k (inr x) =
          let y = x.holds in
          inr (k, le_refl k, record { index = get_or L (b' + y.index) 0; below = q'.within y.index y.below; holds = record { index = get_or L (a' + x.index) 0; below = p'.within x.index x.below; holds = y.holds } })

      back : (c k : ℕ) (x : AllPairs c k) → (Listed L a n x.index × Listed L b m x.holds.index) ⊎ ((Listed L a' n' x.holds.index × Listed L b' m' x.index) ⊎ (v x.index x.holds.index ≤ get_or B (d x.index x.holds.index) 0)) → Outdone (λ c k. Pairs c k ⊎ PairsBack c k) B c k
      back c k x (inl l) = inr (k, le_refl k, inl (some_listed (λ t. SomeListed (pair_gives t) L b m) L a n x.index c k l.0 (some_listed (pair_gives x.index) L b m x.holds.index c k l.1 x.holds.holds)))
      back c k x (inr (inl l)) = inr (k, le_refl k, inr (some_listed (λ u. SomeListed (λ t. pair_gives t u) L b' m') L a' n' x.holds.index c k l.0 (some_listed (λ t. pair_gives t x.holds.index) L b' m' x.index c k l.1 x.holds.holds)))
      back c k x (inr (inr h)) = inl (rw (x.holds.holds.0, x.holds.holds.1) h)
