-- The lists of a table of zeros: the starting line of each point, once as a line and once as raised.
use mathlib.Core.Path.{◌≡◌, refl, sym, subst, ◌∙◌}
use mathlib.Core.Bool.{Bool, true, false, cond, ◌||◌}
use mathlib.Core.List.{List}
use Prim.Native.Nat.{ℕ, zero, suc, ◌+◌, ◌*◌, ◌≤◌, ◌<◌}
use native.Mathlib.Nat.{mul-le-mul_right, suc-mul}
use native.Mathlib.Decide.{ℕ_discrete}
use native.Mathlib.Omega.{arith}
use lib.Dec.{T as Is, ltb}
use lib.ListN.{length, get_or}
use borrow.Author.Tests.{ne_eqb}
use Rattle.rules_fill.specs.Shapes.{is_line}
use Rattle.rules_listed.specs.Places.{Listed, Places, count_below}
use Rattle.rounds_tables.specs.Known.{AllListed}

row : (y n w : ℕ) → y < n → y * w + w ≤ n * w
row y n w h = rw suc-mul at (mul-le-mul_right w h)

count_none : (f : ℕ → Bool) (n : ℕ) → ((c : ℕ) → 0 < c → c < suc n → f c ≡ false) → Is (f 0) → 1 ≡ count_below f (suc n)
unfolding count_below
count_none f zero h i = go (f 0) i
  where
    go : (b : Bool) → Is b → ◌≡◌ {A = ℕ} 1 (cond b 1 0)
    go false j = elim j [ ]
    go true j = refl
count_none f (suc n) h i = rw (h (suc n) (omega arith) (omega arith)) (count_none f n (λ c p k. h c p (omega arith)) i)

-- of a cell that is 0, only the starting line
start_line : (v : ℕ) → Is (is_line 0 v)
unfolding is_line
start_line v = go (ltb 0 v)
  where
    go : (b : Bool) → Is (b || true)
    go true = tt
    go false = tt

no_line : (t v : ℕ) → 0 < t → v ≡ 0 → is_line t v ≡ false
unfolding is_line
no_line t v h e = rw (e, ne_eqb t 0 (λ z. absurd (omega arith)))

module _ (n w : ℕ) (F L C : List ℕ) (wide : 0 < w) (lists_long : (2 * n) * w ≤ length L) (cells_none : (c : ℕ) → c < n * w → get_or F c 0 ≡ 0) (places_none : (c : ℕ) → get_or L c 0 ≡ 0) (counts_one : (c : ℕ) → c < 2 * n → get_or C c 0 ≡ 1) where
  cell : (y t : ℕ) → y < n → t < w → get_or F (y * w + t) 0 ≡ 0
  cell y t h k = cells_none (y * w + t) (omega (arith, row y n w h))

  -- one entry of a row of the list
  one_place : (k : ℕ) → k < 2 * n → Places L (k * w) (get_or C k 0) w
  one_place k h = record { long = rw (counts_one k h) (omega (arith, row k (2 * n) w h)); within = λ i l. rw (places_none (k * w + i)) wide }

  the_place : (k t : ℕ) → k < 2 * n → t ≡ 0 → Listed L (k * w) (get_or C k 0) t
  the_place k t h e = record { at = 0; below = rw (counts_one k h) (omega arith); is = places_none (k * w + 0) ∙ sym e }

  only_start : (y t : ℕ) → y < n → t < w → Is (is_line t (get_or F (y * w + t) 0)) → t ≡ 0
  only_start y t h k i = go (ℕ_discrete t 0)
    where
      go : Dec (t ≡ 0) → t ≡ 0
      go (yes e) = e
      go (no e) = absurd (subst Is (no_line t (get_or F (y * w + t) 0) (omega arith) (cell y t h k)) i)

  counted : (y : ℕ) → y < n → (v : ℕ) → v ≡ w → 1 ≡ count_below (λ t. is_line t (get_or F (y * w + t) 0)) v
  counted y h zero e = absurd (omega arith)
  counted y h (suc v) e = count_none (λ t. is_line t (get_or F (y * w + t) 0)) v (λ t p k. no_line t (get_or F (y * w + t) 0) p (cell y t h (omega arith))) (start_line (get_or F (y * w + 0) 0))

  pub zeros_listed : AllListed n w F L C
  zeros_listed = record {
    lists_are = λ y h. record {
      raised_places = one_place (2 * y) (omega arith);
      line_places = one_place (2 * y + 1) (omega arith);
      line_count = counts_one (2 * y + 1) (omega arith) ∙ counted y h w refl;
      all_lines = λ t k i. the_place (2 * y + 1) t (omega arith) (only_start y t h k i);
    };
    lines_raised = λ y t h k i. the_place (2 * y) t (omega arith) (only_start y t h k i);
  }
