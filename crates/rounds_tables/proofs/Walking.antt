-- Laws of walks over the points of a set, which are taken out one after another: points with lines, and raised cells above a horizon.
use mathlib.Core.Path.{◌≡◌, refl, sym, ap, ◌∙◌}
use mathlib.Core.Bool.{Bool, true, false, ◌||◌, true≢false}
use mathlib.Core.Logic.{◌⊎◌, inl, inr}
use mathlib.Core.List.{List, [], ◌∷◌}
use Prim.Native.Nat.{ℕ, zero, suc, ◌+◌, ◌-◌, ◌*◌, ◌^◌, ◌≤◌, ◌<◌}
use native.Mathlib.Decide.{ℕ_discrete}
use native.Mathlib.Omega.{arith}
use lib.Bits.{bit_or}
use lib.Dec.{ltb}
use lib.ListN.{length, get_or, take, drop}
use borrow.Author.Tests.{ltb-false}
use Rattle.std.specs.List.{list_any}
use lib.Pow.{pow-lt}
use Rattle.plan.specs.LinkSet.{contains, remove}
use Rattle.plan.proofs.Truth.{is?, is_not}
use Rattle.rules_listed.specs.Places.{Places}
use Rattle.rules_refill.specs.Lists.{Raised}
use Rattle.rounds_points.specs.PointSets.{In}
use Rattle.rounds_points.proofs.PointSets.{none_in, point_below, own_bit, in_left, in_right, union_below, in_rest}
use Rattle.rounds_tables.specs.Known.{LinedIn, LinedBut, OverLent, NoneAbove, NoneRaisedAbove}
use Rattle.rounds_tables.proofs.RoundLaws.{row_within}
use Rattle.rounds_tables.proofs.LineLists.{row_at, row_length}

-- ---- what is left of a set of points below n
-- a point of what is left is another, or the one taken out
pub left_or_taken : (left y rest x : ℕ) → rest ≡ remove left y → In left x → In rest x ⊎ (x ≡ y)
left_or_taken left y rest x e h = go (ℕ_discrete x y)
  where
    go : Dec (x ≡ y) → In rest x ⊎ (x ≡ y)
    go (yes q) = inr q
    go (no q) = inl (rw e (in_rest left y x h q))

-- a set with one point more
pub bit_below : (n y : ℕ) → y < n → 2 ^ y < 2 ^ n
bit_below n y h = pow-lt h

-- ---- points with a line beside the starting line
pub record LinedLeft (n : ℕ) (counts : List ℕ) (left found : ℕ) : Type 0 where
  pub left_below : left < 2 ^ n
  pub found_below : found < 2 ^ n
  pub has : (x : ℕ) → x < n → 1 < get_or counts (2 * x + 1) 0 → In left x ⊎ In found x

pub lined_first : (n : ℕ) (counts : List ℕ) (changed lined : ℕ) → LinedBut n counts changed lined → LinedLeft n counts changed lined
lined_first n counts changed lined but = record { left_below = but.changed_below; found_below = but.lined_below; has = λ x h k. go x h k (is? (contains changed x)) }
  where
    go : (x : ℕ) → x < n → 1 < get_or counts (2 * x + 1) 0 → In changed x ⊎ (contains changed x ≡ false) → In changed x ⊎ In lined x
    go x h k (inl a) = inl a
    go x h k (inr e) = inr (but.has x h (is_not e) k)

pub lined_last : (n : ℕ) (counts : List ℕ) (left found : ℕ) → left ≡ 0 → LinedLeft n counts left found → LinedIn n counts found
lined_last n counts left found e l = record { below = l.found_below; has = λ x h k. go x (l.has x h k) }
  where
    go : (x : ℕ) → In left x ⊎ In found x → In found x
    go x (inl a) = absurd (none_in x (rw e at a))
    go x (inr a) = a

module _ (n : ℕ) (counts : List ℕ) (left found y rest : ℕ) (sofar : LinedLeft n counts left found) (h : In left y) (rest_is : rest ≡ remove left y) (less : rest < left) where
  pub lined_found : (b : ℕ) → b ≡ 2 ^ y → LinedLeft n counts rest (bit_or found b)
  lined_found b e = record { left_below = omega (arith, sofar.left_below); found_below = union_below n found b sofar.found_below (rw e (bit_below n y (point_below left n y h sofar.left_below))); has = λ x k l. one x (sofar.has x k l) }
    where
      two : (x : ℕ) → In rest x ⊎ (x ≡ y) → In rest x ⊎ In (bit_or found b) x
      two x (inl a) = inl a
      two x (inr q) = inr (in_right found b x (rw (e, q) (own_bit y)))

      one : (x : ℕ) → In left x ⊎ In found x → In rest x ⊎ In (bit_or found b) x
      one x (inl a) = two x (left_or_taken left y rest x rest_is a)
      one x (inr a) = inr (in_left found b x a)

  pub lined_passed : get_or counts (2 * y + 1) 0 ≤ 1 → LinedLeft n counts rest found
  lined_passed low = record { left_below = omega (arith, sofar.left_below); found_below = sofar.found_below; has = λ x k l. one x l (sofar.has x k l) }
    where
      two : (x : ℕ) → 1 < get_or counts (2 * x + 1) 0 → In rest x ⊎ (x ≡ y) → In rest x ⊎ In found x
      two x l (inl a) = inl a
      two x l (inr q) = absurd (omega (arith, ap (λ (z : ℕ). get_or counts (2 * z + 1) 0) q))

      one : (x : ℕ) → 1 < get_or counts (2 * x + 1) 0 → In left x ⊎ In found x → In rest x ⊎ In found x
      one x l (inl a) = two x l (left_or_taken left y rest x rest_is a)
      one x l (inr a) = inr a

-- ---- raised cells above a horizon
-- a search that found nothing
none_found : (f : ℕ → Bool) (xs : List ℕ) → list_any f xs ≡ false → (i : ℕ) → i < length xs → f (get_or xs i 0) ≡ false
none_found f [] e i h = absurd (omega arith)
none_found f (x ∷ xs) e i h = go (f x) refl e i h (none_found f xs)
  where
    go : (b : Bool) → f x ≡ b → b || list_any f xs ≡ false → (j : ℕ) → j < suc (length xs) → (list_any f xs ≡ false → (k : ℕ) → k < length xs → f (get_or xs k 0) ≡ false) → f (get_or (x ∷ xs) j 0) ≡ false
    go true q z j l r = absurd (true≢false z)
    go false q z zero l r = q
    go false q z (suc j) l r = r z j (omega arith)

-- the listed places of a row are cells of it
pub places_inside : (A L : List ℕ) (base start k w : ℕ) → Places L start k w → base + w ≤ length A → (i : ℕ) → i < length (take (start + k - start) (drop start L)) → get_or (take (start + k - start) (drop start L)) i 0 < length (take (base + w - base) (drop base A))
places_inside A L base start k w places long i h =
    let l : i < k = omega (arith, row_length L start k places.long) in
    rw (row_at L start k i l, row_length A base w long) (places.within i l)

-- among the listed places of a row: none of these cells is higher
pub none_high : (h : ℕ) (A L : List ℕ) (base start k w : ℕ) → Places L start k w → (over : Bool) → over ≡ list_any (λ c. ltb h (get_or (take (base + w - base) (drop base A)) c 0)) (take (start + k - start) (drop start L)) → NoneAbove h A L base start k over
none_high h A L base start k w places over found = record { none = λ e i l. low e i l }
  where
    low : over ≡ false → (i : ℕ) → i < k → get_or A (base + get_or L (start + i) 0) 0 ≤ h
    low e i l =
        let listed = row_at L start k i l in
        let read = row_at A base w (get_or L (start + i) 0) (places.within i l) in
        let low_there = none_found (λ c. ltb h (get_or (take (base + w - base) (drop base A)) c 0)) (take (start + k - start) (drop start L)) (sym found ∙ e) i (omega (arith, row_length L start k places.long)) in
        omega (arith, ltb-false h (get_or A (base + get_or L (start + i) 0) 0) (rw (listed, read) at low_there))

pub record OverLeft (n w horizon : ℕ) (table lists counts : List ℕ) (changed left : ℕ) : Type 0 where
  pub left_below : left < 2 ^ n
  pub low : (x t : ℕ) → x < n → In changed x → Raised w lists counts x t → In left x ⊎ (get_or table (x * w + t) 0 ≤ horizon)

-- a point that is left: its row of the table, and its raised places
pub over_at : (n w : ℕ) (table lists counts : List ℕ) (changed left y : ℕ) → OverLent n w table lists counts changed → left < 2 ^ n → In left y → (y < n) × (y * w + w ≤ length table) × Places lists (2 * y * w) (get_or counts (2 * y) 0) w
over_at n w table lists counts changed left y lent below h =
    let inside : y < n = point_below left n y h below in
    (inside, omega (arith, row_within y n w inside, lent.long), lent.places y inside)

pub over_first : (n w horizon : ℕ) (table lists counts : List ℕ) (changed : ℕ) → changed < 2 ^ n → OverLeft n w horizon table lists counts changed changed
over_first n w horizon table lists counts changed h = record { left_below = h; low = λ x t k c r. inl c }

pub over_last : (n w horizon : ℕ) (table lists counts : List ℕ) (changed left : ℕ) → left ≡ 0 → OverLeft n w horizon table lists counts changed left → NoneRaisedAbove n w horizon table lists counts changed false
over_last n w horizon table lists counts changed left e l = record { none = λ q x t h c r. go x t (l.low x t h c r) }
  where
    go : (x t : ℕ) → In left x ⊎ (get_or table (x * w + t) 0 ≤ horizon) → get_or table (x * w + t) 0 ≤ horizon
    go x t (inl a) = absurd (none_in x (rw e at a))
    go x t (inr a) = a

pub over_passed : (n w horizon : ℕ) (table lists counts : List ℕ) (changed left y rest : ℕ) (over : Bool) → OverLeft n w horizon table lists counts changed left → rest ≡ remove left y → rest < left
    → NoneAbove horizon table lists (y * w) (2 * y * w) (get_or counts (2 * y) 0) over → over ≡ false → OverLeft n w horizon table lists counts changed rest
over_passed n w horizon table lists counts changed left y rest over sofar rest_is less none e = record { left_below = omega (arith, sofar.left_below); low = λ x t h c r. one x t r (sofar.low x t h c r) }
  where
    own : (t : ℕ) → Raised w lists counts y t → get_or table (y * w + t) 0 ≤ horizon
    own t r = rw r.is at (none.none e r.at r.below)

    two : (x t : ℕ) → Raised w lists counts x t → In rest x ⊎ (x ≡ y) → In rest x ⊎ (get_or table (x * w + t) 0 ≤ horizon)
    two x t r (inl a) = inl a
    two x t r (inr q) = inr (rw q (own t (rw q at r)))

    one : (x t : ℕ) → Raised w lists counts x t → In left x ⊎ (get_or table (x * w + t) 0 ≤ horizon) → In rest x ⊎ (get_or table (x * w + t) 0 ≤ horizon)
    one x t r (inl a) = two x t r (left_or_taken left y rest x rest_is a)
    one x t r (inr a) = inr a
