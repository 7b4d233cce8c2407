-- What the loops over a run hold so far.
use mathlib.Core.Path.{◌≡◌, refl, sym, ap, ◌∙◌}
use mathlib.Core.Bool.{Bool, true}
use mathlib.Core.Logic.{◌⊎◌, inl, inr}
use mathlib.Core.List.{List, [], ◌∷◌}
use Prim.Native.Nat.{ℕ, zero, suc, ◌+◌, ◌-◌, ◌≤◌, ◌<◌, min, max}
use native.Mathlib.Nat.{zero-add}
use native.Mathlib.Decide.{ℕ_discrete}
use native.Mathlib.Omega.{arith}
use lib.ListN.{length, get_or, take, drop, set, length-set, length-drop}
use lib.Seq.{get_or-set_same, get_or-set_other, take-set-le, get_or-take, get_or-drop, length-take-le}
use Rattle.std.specs.List.{fold}
use Rattle.rules_halving.specs.Products.{PairsLent, PairGives, Product, NothingNew, JoinLent, Joined, pair_wait}

-- ---- the greatest and the least
pub at_most : (A : List ℕ) (m : ℕ) → (m ≤ fold max m A) × ((i : ℕ) → i < length A → get_or A i 0 ≤ fold max m A)
at_most [] m = (omega arith, λ i h. absurd (omega arith))
at_most (x ∷ xs) m = let r = at_most xs (max m x) in (omega (arith, r.0), at r)
  where
    at : (max m x ≤ fold max (max m x) xs) × ((i : ℕ) → i < length xs → get_or xs i 0 ≤ fold max (max m x) xs) → (i : ℕ) → i < length (x ∷ xs) → get_or (x ∷ xs) i 0 ≤ fold max (max m x) xs
    at r zero h = omega (arith, r.0)
    at r (suc i) h = r.1 i (omega arith)

pub at_least : (A : List ℕ) (m : ℕ) → (fold min m A ≤ m) × ((i : ℕ) → i < length A → fold min m A ≤ get_or A i 0)
at_least [] m = (omega arith, λ i h. absurd (omega arith))
at_least (x ∷ xs) m = let r = at_least xs (min m x) in (omega (arith, r.0), at r)
  where
    at : (fold min (min m x) xs ≤ min m x) × ((i : ℕ) → i < length xs → fold min (min m x) xs ≤ get_or xs i 0) → (i : ℕ) → i < length (x ∷ xs) → fold min (min m x) xs ≤ get_or (x ∷ xs) i 0
    at r zero h = omega (arith, r.0)
    at r (suc i) h = r.1 i (omega arith)

-- ---- the greater of each two, as far as m
pub record JoinedTo (G : List ℕ) (from n top m : ℕ) (G' : List ℕ) : Type 0 where
  pub greater : (i : ℕ) → i < m → get_or G' (top + i) 0 ≡ max (get_or G (from + i) 0) (get_or G (from + (n + i)) 0)
  pub same_below : take top G' ≡ take top G
  pub as_long : length G' ≡ length G

pub joined_none : (G : List ℕ) (from n top : ℕ) → JoinedTo G from n top 0 G
joined_none G from n top = record { greater = λ i h. absurd (omega arith); same_below = refl; as_long = refl }

-- what lies below `top` is read as it was
pub below_same : (top : ℕ) (G G' : List ℕ) → take top G' ≡ take top G → (i : ℕ) → i < top → get_or G' i 0 ≡ get_or G i 0
below_same top G G' e i h = sym (get_or-take top G' i 0 h) ∙ ap (λ (A : List ℕ). get_or A i 0) e ∙ get_or-take top G i 0 h

pub joined_more : (G : List ℕ) (from n top i : ℕ) (G' : List ℕ) (v : ℕ) → JoinLent G from n top → i < n → JoinedTo G from n top i G'
    → v ≡ max (get_or G' (from + i) 0) (get_or G' (from + n + i) 0) → JoinedTo G from n top (i + 1) (set G' (top + i) v)
joined_more G from n top i G' v lent h l e = record { greater = λ j k. at j k (ℕ_discrete j i); same_below = take-set-le top G' (top + i) v (omega arith) ∙ l.same_below; as_long = length-set G' (top + i) v ∙ l.as_long }
  where
    old : (k : ℕ) → k < top → get_or G' k 0 ≡ get_or G k 0
    old = below_same top G G' l.same_below

    shifted : from + n + i ≡ from + (n + i)
    shifted = omega arith

    value : v ≡ max (get_or G (from + i) 0) (get_or G (from + (n + i)) 0)
    value = omega (arith, e, old (from + i) (omega (arith, lent.below_top)), rw shifted at (old (from + n + i) (omega (arith, lent.below_top))), ap (λ (k : ℕ). get_or G' k 0) shifted)

    at : (j : ℕ) → j < i + 1 → Dec (j ≡ i) → get_or (set G' (top + i) v) (top + j) 0 ≡ max (get_or G (from + j) 0) (get_or G (from + (n + j)) 0)
    at j k (yes q) = rw q (get_or-set_same G' (top + i) v 0 (omega (arith, lent.room, l.as_long)) ∙ value)
    at j k (no q) = get_or-set_other G' (top + i) (top + j) v 0 (λ x. q (omega (arith, x))) ∙ l.greater j (omega arith)

-- ---- at the end
pub all_joined : (G : List ℕ) (from n top i : ℕ) (G' : List ℕ) → i ≡ n → JoinedTo G from n top i G' → Joined G from n top G'
all_joined G from n top i G' e l = record { greater = λ j h. l.greater j (omega arith); same_below = l.same_below }

-- ---- a pair gives at most the greatest of each run
pub nothing_new : {n : ℕ} {F G H : List ℕ} (lent : PairsLent n F G 0 H) (m : ℕ) → m ≡ min (fold max 0 F) (fold max 0 G) → m ≤ fold min 4294967295 H
    → (a b c : ℕ) → a < n → b < n → c < n → pair_wait F G 0 a b ≤ get_or H c 0
unfolding pair_wait
nothing_new {n} {F} {G} {H} lent m e below a b c i j k =
    omega (arith, (at_most F 0).1 a (omega (arith, lent.long_first)), (at_most G 0).1 (0 + b) (omega (arith, lent.long_second)), (at_least H 4294967295).1 c (omega (arith, lent.long_third)))

-- ---- a run within a list, by itself
abbrev pub run : List ℕ → ℕ → ℕ → List ℕ
run G from n = take (from + n - from) (drop from G)

pub run_long : {n : ℕ} {F G : List ℕ} {from : ℕ} {H : List ℕ} → PairsLent n F G from H → length (run G from n) ≡ n
run_long {n} {F} {G} {from} l = length-take-le (from + n - from) (drop from G) (omega (arith, length-drop from G, l.long_second)) ∙ omega arith

pub run_lent : {n : ℕ} {F G : List ℕ} {from : ℕ} {H : List ℕ} → PairsLent n F G from H → PairsLent n F (run G from n) 0 H
run_lent l = record { power = l.power; power_is = l.power_is; long_first = l.long_first; long_second = omega (arith, run_long l); long_third = l.long_third }

same_wait : (F G : List ℕ) (from n a b : ℕ) → b < n → pair_wait F (run G from n) 0 a b ≡ pair_wait F G from a b
unfolding pair_wait
same_wait F G from n a b h = ap (min (get_or F a 0)) (ap (λ (i : ℕ). get_or (run G from n) i 0) (zero-add b) ∙ get_or-take (from + n - from) (drop from G) b 0 (omega arith) ∙ get_or-drop from G b 0)

pub run_product : {n : ℕ} {F G : List ℕ} {from : ℕ} {H H' : List ℕ} → Product n F (run G from n) 0 H H' → Product n F G from H H'
run_product {n} {F} {G} {from} {H} {H'} p = record { no_lower = p.no_lower; covers = λ a b h k. rw (same_wait F G from n a b k) at (p.covers a b h k); reason = λ c h. to c (p.reason c h) }
  where
    to : (c : ℕ) → (get_or H' c 0 ≡ get_or H c 0) ⊎ PairGives n F (run G from n) 0 c (get_or H' c 0) → (get_or H' c 0 ≡ get_or H c 0) ⊎ PairGives n F G from c (get_or H' c 0)
    to c (inl e) = inl e
    to c (inr g) = inr (record { a = g.a; b = g.b; a_below = g.a_below; b_below = g.b_below; joined = g.joined; wait = g.wait ∙ same_wait F G from n g.a g.b g.b_below })

pub run_no_more : {n : ℕ} (F G : List ℕ) (from : ℕ) {H : List ℕ} {r : Bool} → r ≡ true → NothingNew n F (run G from n) 0 H r → (a b c : ℕ) → a < n → b < n → c < n → pair_wait F G from a b ≤ get_or H c 0
run_no_more {n} F G from e l a b c i j k = rw (same_wait F G from n a b j) at (l.no_more e a b c i j k)
