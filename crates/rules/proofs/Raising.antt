-- Steps that raise cells of a table, put together as loops put them together.
-- `Raises n R f` says of a step f on tables of n cells: it lowers no cell, raises a cell only to a wait that R gives it, and to no less than any.
use mathlib.Core.Path.{◌≡◌, sym, subst, ◌∙◌}
use mathlib.Core.Logic.{◌⊎◌, inl, inr}
use mathlib.Core.List.{List}
use Prim.Native.Nat.{ℕ, ◌≤◌, ◌<◌, max}
use native.Mathlib.Nat.{le_trans, le_antisymm, max-eq_left, max-eq_right}
use native.Mathlib.Decide.{ℕ_discrete, dec_le}
use native.Mathlib.Omega.{arith}
use lib.ListN.{length, get_or, set, length-set}
use lib.Seq.{get_or-set_same, get_or-set_other, ext_get_or, set-get_or}
use Rattle.rules.specs.Tables.{raise_cell}

pub record Raises (n : ℕ) (R : ℕ → ℕ → Type 0) (f : List ℕ → List ℕ) : Type 0 where
  pub as_long : (A : List ℕ) → length A ≡ n → length (f A) ≡ n
  pub no_lower : (A : List ℕ) → length A ≡ n → (c : ℕ) → get_or A c 0 ≤ get_or (f A) c 0
  pub reason : (A : List ℕ) → length A ≡ n → (c : ℕ) → (get_or (f A) c 0 ≡ get_or A c 0) ⊎ R c (get_or (f A) c 0)
  pub covers : (A : List ℕ) → length A ≡ n → (c w : ℕ) → R c w → w ≤ get_or (f A) c 0

pub raises_cell : (n c w : ℕ) → c < n → Raises n (λ d v. (d ≡ c) × (v ≡ w)) (raise_cell c w)
unfolding raise_cell
raises_cell n c w h = record { as_long = λ A l. simp length-set l; no_lower = λ A l d. lower A l d (ℕ_discrete d c); reason = λ A l d. why A l d (ℕ_discrete d c); covers = λ A l d v r. cover A l d v r.0 r.1 }
  where
    same : (A : List ℕ) → length A ≡ n → (d : ℕ) → d ≡ c → get_or (raise_cell c w A) d 0 ≡ max (get_or A d 0) w
    same A l d e = let k : c < length A = omega arith in rw (e, get_or-set_same)

    lower : (A : List ℕ) → length A ≡ n → (d : ℕ) → Dec (d ≡ c) → get_or A d 0 ≤ get_or (raise_cell c w A) d 0
    lower A l d (yes e) = omega (arith, same A l d e)
    lower A l d (no e) = omega (arith, get_or-set_other A c d (max (get_or A c 0) w) 0 e)

    pick : (A : List ℕ) → length A ≡ n → (d : ℕ) → d ≡ c → Dec (w ≤ get_or A d 0) → (get_or (raise_cell c w A) d 0 ≡ get_or A d 0) ⊎ ((d ≡ c) × (get_or (raise_cell c w A) d 0 ≡ w))
    pick A l d e (yes k) = inl (omega (arith, same A l d e))
    pick A l d e (no k) = inr (e, omega (arith, same A l d e))

    why : (A : List ℕ) → length A ≡ n → (d : ℕ) → Dec (d ≡ c) → (get_or (raise_cell c w A) d 0 ≡ get_or A d 0) ⊎ ((d ≡ c) × (get_or (raise_cell c w A) d 0 ≡ w))
    why A l d (yes e) = pick A l d e (dec_le w (get_or A d 0))
    why A l d (no e) = inl (get_or-set_other A c d (max (get_or A c 0) w) 0 e)

    cover : (A : List ℕ) → length A ≡ n → (d v : ℕ) → d ≡ c → v ≡ w → v ≤ get_or (raise_cell c w A) d 0
    cover A l d v e q = omega (arith, same A l d e)

pub raises_then : (n : ℕ) (R S : ℕ → ℕ → Type 0) (f g : List ℕ → List ℕ) → Raises n R f → Raises n S g → Raises n (λ c w. R c w ⊎ S c w) (λ A. g (f A))
raises_then n R S f g r s = record { as_long = λ A l. s.as_long (f A) (r.as_long A l); no_lower = λ A l c. le_trans (r.no_lower A l c) (s.no_lower (f A) (r.as_long A l) c); reason = λ A l c. why A l c (r.reason A l c) (s.reason (f A) (r.as_long A l) c); covers = λ A l c w x. cover A l c w x }
  where
    why : (A : List ℕ) → length A ≡ n → (c : ℕ) → (get_or (f A) c 0 ≡ get_or A c 0) ⊎ R c (get_or (f A) c 0) → (get_or (g (f A)) c 0 ≡ get_or (f A) c 0) ⊎ S c (get_or (g (f A)) c 0) → (get_or (g (f A)) c 0 ≡ get_or A c 0) ⊎ (R c (get_or (g (f A)) c 0) ⊎ S c (get_or (g (f A)) c 0))
    why A l c x (inr y) = inr (inr y)
    why A l c (inl e) (inl q) = inl (q ∙ e)
    why A l c (inr e) (inl q) = inr (inl (subst (R c) (sym q) e))

    cover : (A : List ℕ) → length A ≡ n → (c w : ℕ) → R c w ⊎ S c w → w ≤ get_or (g (f A)) c 0
    cover A l c w (inl x) = le_trans (r.covers A l c w x) (s.no_lower (f A) (r.as_long A l) c)
    cover A l c w (inr x) = s.covers (f A) (r.as_long A l) c w x

-- the same steps, said of another relation
pub raises_iff : (n : ℕ) (R S : ℕ → ℕ → Type 0) (f : List ℕ → List ℕ) → ((c w : ℕ) → R c w → S c w) → ((c w : ℕ) → S c w → R c w) → Raises n R f → Raises n S f
raises_iff n R S f to back r = record { as_long = r.as_long; no_lower = r.no_lower; reason = λ A l c. go A c (r.reason A l c); covers = λ A l c w x. r.covers A l c w (back c w x) }
  where
    go : (A : List ℕ) (c : ℕ) → (get_or (f A) c 0 ≡ get_or A c 0) ⊎ R c (get_or (f A) c 0) → (get_or (f A) c 0 ≡ get_or A c 0) ⊎ S c (get_or (f A) c 0)
    go A c (inl e) = inl e
    go A c (inr x) = inr (to c _ x)

-- two steps over relations of which each is outdone by the other make one table
pub same_raise : (n : ℕ) (R S : ℕ → ℕ → Type 0) (f g : List ℕ → List ℕ) → Raises n R f → Raises n S g
    → ((c w : ℕ) → R c w → (v : ℕ) × (w ≤ v) × S c v) → ((c w : ℕ) → S c w → (v : ℕ) × (w ≤ v) × R c v) → (A : List ℕ) → length A ≡ n → f A ≡ g A
same_raise n R S f g r s to back A l = ext_get_or 0 (f A) (g A) (r.as_long A l ∙ sym (s.as_long A l)) (λ c h. le_antisymm (le c r s to (r.reason A l c)) (le c s r back (s.reason A l c)))
  where
    le : {R S : ℕ → ℕ → Type 0} {f g : List ℕ → List ℕ} (c : ℕ) → Raises n R f → Raises n S g → ((c w : ℕ) → R c w → (v : ℕ) × (w ≤ v) × S c v) → (get_or (f A) c 0 ≡ get_or A c 0) ⊎ R c (get_or (f A) c 0) → get_or (f A) c 0 ≤ get_or (g A) c 0
    le c r s to (inl e) = rw e (s.no_lower A l c)
    le c r s to (inr x) = let t = to c _ x in le_trans t.1 (s.covers A l c t.0 t.2)

-- ---- for a function that raises a cell by a test and a store
pub raise_up : (A : List ℕ) (c w : ℕ) → get_or A c 0 ≤ w → set A c w ≡ raise_cell c w A
unfolding raise_cell
raise_up A c w h = rw (max-eq_right h)

pub raise_none : (A : List ℕ) (c w : ℕ) → w ≤ get_or A c 0 → A ≡ raise_cell c w A
unfolding raise_cell
raise_none A c w h = rw (max-eq_left h, set-get_or)
