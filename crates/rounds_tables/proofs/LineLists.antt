-- Laws of listed lines: what cells are lines, how many there are, a cell that becomes a line, and the lines of one cell more.
use mathlib.Core.Path.{◌≡◌, refl, sym, ap, subst, ◌∙◌}
use mathlib.Core.Bool.{Bool, true, false, ◌||◌}
use mathlib.Core.List.{List}
use Prim.Native.Nat.{ℕ, ◌+◌, ◌-◌, ◌≤◌, ◌<◌}
use native.Mathlib.Decide.{ℕ_discrete}
use native.Mathlib.Numerals.{add-one}
use native.Mathlib.Omega.{arith}
use lib.Dec.{T as Is, ltb}
use lib.ListN.{length, get_or, set, take, drop, length-set, length-drop}
use lib.Seq.{get_or-set_same, get_or-set_other, get_or-take, get_or-drop, length-take-le}
use borrow.Author.Tests.{lt-ltb, le-ltb, eq-eqb, ne_eqb}
use Rattle.plan.proofs.Truth.{is_not}
use Rattle.rules_fill.specs.Shapes.{is_line}
use Rattle.rules_listed.specs.Places.{Listed, Places, count_below}
use Rattle.rules_listed.proofs.Counting.{count_le, count_alike, count_more}
use Rattle.rounds_tables.specs.Settling.{LinesAt, CellLent, AfterCell}

-- ---- how many numbers pass a test
-- one number more passes, or does not
count_passed : (f : ℕ → Bool) (n : ℕ) → f n ≡ true → count_below f (n + 1) ≡ count_below f n + 1
unfolding count_below
count_passed f n e = ap (count_below f) (add-one n) ∙ rw e (omega arith)

count_failed : (f : ℕ → Bool) (n : ℕ) → f n ≡ false → count_below f (n + 1) ≡ count_below f n
unfolding count_below
count_failed f n e = ap (count_below f) (add-one n) ∙ rw e

-- ---- lines
pub above_line : (t v : ℕ) → 0 < v → is_line t v ≡ true
unfolding is_line
above_line t v h = rw (lt-ltb 0 v h)

pub some_line : (t v : ℕ) → (v ≡ 0 → ⊥) → is_line t v ≡ true
some_line t v d = above_line t v (omega arith)

or_true : (b : Bool) → b || true ≡ true
or_true true = refl
or_true false = refl

pub start_line : (t v : ℕ) → t ≡ 0 → is_line t v ≡ true
unfolding is_line
start_line t v e = rw (eq-eqb t 0 e) (or_true (ltb 0 v))

pub no_line : (t v : ℕ) → v ≡ 0 → (t ≡ 0 → ⊥) → is_line t v ≡ false
unfolding is_line
no_line t v e d = rw (le-ltb 0 v (omega arith), ne_eqb t 0 d)

-- where t is a line of a table, from base on
abbrev pub line_of : List ℕ → ℕ → ℕ → Bool
line_of T base t = is_line t (get_or T (base + t) 0)

-- ---- listed lines
-- of a table with the same lines, in a list with the same entries
pub lines_kept : (w : ℕ) (T T' L L' : List ℕ) (base at known : ℕ) → LinesAt w T L base at known → ((t : ℕ) → t < w → line_of T base t ≡ line_of T' base t) → at + known ≤ length L' → ((i : ℕ) → i < known → get_or L' (at + i) 0 ≡ get_or L (at + i) 0)
    → LinesAt w T' L' base at known
lines_kept w T T' L L' base at known lines same long stay = record { places = record { long = long; within = λ i h. rw (stay i h) (lines.places.within i h) }; count_is = lines.count_is ∙ count_alike _ _ w same; all = λ t h k. find t (lines.all t h (subst Is (sym (same t h)) k)) }
  where
    find : (t : ℕ) → Listed L at known t → Listed L' at known t
    find t l = record { at = l.at; below = l.below; is = stay l.at l.below ∙ l.is }

-- one place more is listed
module _ (L : List ℕ) (at known c : ℕ) (fits : at + known < length L) where
  here : get_or (set L (at + known) c) (at + known) 0 ≡ c
  here = get_or-set_same L (at + known) c 0 fits

  there : (i : ℕ) → (i ≡ at + known → ⊥) → get_or (set L (at + known) c) i 0 ≡ get_or L i 0
  there i e = get_or-set_other L (at + known) i c 0 e

  pub more_places : (w u : ℕ) → Places L at known w → w ≤ u → c < u → Places (set L (at + known) c) at (known + 1) u
  more_places w u p h l = record { long = simp length-set (omega arith); within = λ i k. low i k (ℕ_discrete i known) }
    where
      low : (i : ℕ) → i < known + 1 → Dec (i ≡ known) → get_or (set L (at + known) c) (at + i) 0 < u
      low i k (yes e) = rw e (omega (arith, here))
      low i k (no e) = omega (arith, there (at + i) (λ q. e (omega arith)), p.within i (omega arith))

  pub new_listed : Listed (set L (at + known) c) at (known + 1) c
  new_listed = record { at = known; below = omega arith; is = here }

  pub still_listed : (t : ℕ) → Listed L at known t → Listed (set L (at + known) c) at (known + 1) t
  still_listed t l = record { at = l.at; below = omega (arith, l.below); is = there (at + l.at) (λ q. omega (arith, l.below)) ∙ l.is }

-- ---- one cell more
module _ (c : ℕ) (T L : List ℕ) (base at known : ℕ) (lines : LinesAt c T L base at known) where
  pub known_few : known ≤ c
  known_few = omega (arith, lines.count_is, count_le (line_of T base) c)

  pub one_lined : line_of T base c ≡ true → at + known < length L → LinesAt (c + 1) T (set L (at + known) c) base at (known + 1)
  one_lined e fits = record { places = more_places L at known c fits c (c + 1) lines.places (omega arith) (omega arith); count_is = omega (arith, lines.count_is, count_passed (line_of T base) c e); all = λ t h k. find t h k (ℕ_discrete t c) }
    where
      find : (t : ℕ) → t < c + 1 → Is (line_of T base t) → Dec (t ≡ c) → Listed (set L (at + known) c) at (known + 1) t
      find t h k (yes q) = rw q (new_listed L at known c fits)
      find t h k (no q) = still_listed L at known c fits t (lines.all t (omega arith) k)

  pub none_lined : line_of T base c ≡ false → LinesAt (c + 1) T L base at known
  none_lined e = record { places = record { long = lines.places.long; within = λ i h. omega (arith, lines.places.within i h) }; count_is = omega (arith, lines.count_is, count_failed (line_of T base) c e); all = λ t h k. find t h k (ℕ_discrete t c) }
    where
      find : (t : ℕ) → t < c + 1 → Is (line_of T base t) → Dec (t ≡ c) → Listed L at known t
      find t h k (yes q) = absurd (is_not e (subst (λ (x : ℕ). Is (line_of T base x)) q k))
      find t h k (no q) = lines.all t (omega arith) k

-- ---- a cell that gets a wait
module _ (w : ℕ) (T L : List ℕ) (base at known place v : ℕ) (lines : LinesAt w T L base at known) (inside : place < w) (long : base + w ≤ length T) (above : 0 < v) where
  cell_now : get_or (set T (base + place) v) (base + place) 0 ≡ v
  cell_now = get_or-set_same T (base + place) v 0 (omega arith)

  now_line : line_of (set T (base + place) v) base place ≡ true
  now_line = above_line place _ (omega (arith, cell_now))

  others : (t : ℕ) → (t ≡ place → ⊥) → line_of T base t ≡ line_of (set T (base + place) v) base t
  others t e = ap (is_line t) (sym (get_or-set_other T (base + place) (base + t) v 0 (λ q. e (omega arith))))

  -- it was a line
  pub line_again : line_of T base place ≡ true → LinesAt w (set T (base + place) v) L base at known
  line_again e = lines_kept w T (set T (base + place) v) L L base at known lines (λ t h. go t (ℕ_discrete t place)) lines.places.long (λ i h. refl)
    where
      go : (t : ℕ) → Dec (t ≡ place) → line_of T base t ≡ line_of (set T (base + place) v) base t
      go t (yes q) = rw q (e ∙ sym now_line)
      go t (no q) = others t q

  -- it was none: there is room for one more
  module _ (e : line_of T base place ≡ false) where
    count_now : count_below (line_of (set T (base + place) v) base) w ≡ known + 1
    count_now = count_more (line_of T base) (line_of (set T (base + place) v) base) place w inside e now_line others ∙ ap (λ (k : ℕ). k + 1) (sym lines.count_is)

    pub line_fits : known < w
    line_fits = omega (arith, count_now, count_le (line_of (set T (base + place) v) base) w)

    pub line_new : at + w ≤ length L → LinesAt w (set T (base + place) v) (set L (at + known) place) base at (known + 1)
    line_new room = record { places = more_places L at known place fits w w lines.places (omega arith) inside; count_is = sym count_now; all = λ t h k. find t h k (ℕ_discrete t place) }
      where
        fits : at + known < length L
        fits = omega (arith, line_fits)

        find : (t : ℕ) → t < w → Is (line_of (set T (base + place) v) base t) → Dec (t ≡ place) → Listed (set L (at + known) place) at (known + 1) t
        find t h k (yes q) = rw q (new_listed L at known place fits)
        find t h k (no q) = still_listed L at known place fits t (lines.all t h (subst Is (sym (others t q)) k))

-- ---- what the copy of one cell leaves
module _ (w : ℕ) (S T L : List ℕ) (base at known place : ℕ) (lent : CellLent w S T L base at known place) where
  pub copied_line : line_of T base place ≡ true → AfterCell w S T L (set T (base + place) (get_or S (base + place) 0)) L base at place known
  copied_line e = record { target_is = refl; lines_are = line_again w T L base at known place _ lent.lines_are lent.place_in lent.long_target lent.above e; before_stay = λ c h. refl; past_stay = λ c h. refl }

  module _ (e : line_of T base place ≡ false) where
    pub room : known < w
    room = line_fits w T L base at known place _ lent.lines_are lent.place_in lent.long_target lent.above e

    pub copied_new : AfterCell w S T L (set T (base + place) (get_or S (base + place) 0)) (set L (at + known) place) base at place (known + 1)
    copied_new = record { target_is = refl; lines_are = line_new w T L base at known place _ lent.lines_are lent.place_in lent.long_target lent.above e lent.lists_long; before_stay = λ c h. get_or-set_other L (at + known) c place 0 (λ q. omega arith); past_stay = λ c h. get_or-set_other L (at + known) c place 0 (λ q. omega (arith, room)) }

-- ---- the lines of a point listed twice
-- the lines of the first c cells from base on, in both lists; what lies before stays
pub record ListedTo (T L₀ : List ℕ) (base raised lines c : ℕ) (L : List ℕ) (n : ℕ) : Type 0 where
  pub raised_are : LinesAt c T L base raised n
  pub lines_are : LinesAt c T L base lines n
  pub before_stay : (i : ℕ) → i < raised → get_or L i 0 ≡ get_or L₀ i 0
  pub as_long : length L ≡ length L₀

module _ (T L₀ : List ℕ) (base raised lines w : ℕ) (apart : raised + w ≤ lines) (fits : lines + w ≤ length L₀) where
  nothing_at : (at : ℕ) → at ≤ length L₀ → LinesAt 0 T L₀ base at 0
  unfolding count_below
  nothing_at at h = record { places = record { long = omega arith; within = λ i k. absurd (omega arith) }; count_is = refl; all = λ t k l. absurd (omega arith) }

  pub listed_none : ListedTo T L₀ base raised lines 0 L₀ 0
  listed_none = record { raised_are = nothing_at raised (omega arith); lines_are = nothing_at lines (omega arith); before_stay = λ i h. refl; as_long = refl }

  module _ (c : ℕ) (L : List ℕ) (n : ℕ) (inside : c < w) (sofar : ListedTo T L₀ base raised lines c L n) where
    few : n ≤ c
    few = known_few c T L base raised n sofar.raised_are

    both_more : line_of T base c ≡ true → ListedTo T L₀ base raised lines (c + 1) (set (set L (raised + n) c) (lines + n) c) (n + 1)
    both_more e = record { raised_are = lines_kept (c + 1) T T M N base raised (n + 1) (one_lined c T L base raised n sofar.raised_are e (omega (arith, few, sofar.as_long))) (λ t h. refl) (omega (arith, few, as_long_now)) (λ i h. past i (omega (arith, few))); lines_are = one_lined c T M base lines n (lines_kept c T T L M base lines n sofar.lines_are (λ t h. refl) (omega (arith, few, first_long)) (λ i h. get_or-set_other L (raised + n) (lines + i) c 0 (λ q. omega (arith, few)))) e (omega (arith, few, first_long)); before_stay = λ i h. past_first i h; as_long = as_long_now }
      where
        M : List ℕ
        M = set L (raised + n) c

        N : List ℕ
        N = set M (lines + n) c

        first_long : length M ≡ length L₀
        first_long = simp length-set sofar.as_long

        as_long_now : length N ≡ length L₀
        as_long_now = simp length-set sofar.as_long

        past : (i : ℕ) → i < w → get_or N (raised + i) 0 ≡ get_or M (raised + i) 0
        past i h = get_or-set_other M (lines + n) (raised + i) c 0 (λ q. omega arith)

        past_first : (i : ℕ) → i < raised → get_or N i 0 ≡ get_or L₀ i 0
        past_first i h = get_or-set_other M (lines + n) i c 0 (λ q. omega arith) ∙ get_or-set_other L (raised + n) i c 0 (λ q. omega arith) ∙ sofar.before_stay i h

    both_same : line_of T base c ≡ false → ListedTo T L₀ base raised lines (c + 1) L n
    both_same e = record { raised_are = none_lined c T L base raised n sofar.raised_are e; lines_are = none_lined c T L base lines n sofar.lines_are e; before_stay = sofar.before_stay; as_long = sofar.as_long }

    -- the lists and their number after the pass
    module _ (L' : List ℕ) (n' : ℕ) where
      pub listed_more : line_of T base c ≡ true → L' ≡ set (set L (raised + n) c) (lines + n) c → n' ≡ n + 1 → ListedTo T L₀ base raised lines (c + 1) L' n' × (n' ≤ c + 1)
      listed_more e p q = rw (p, q) (both_more e, omega (arith, few))

      pub listed_same : line_of T base c ≡ false → L' ≡ L → n' ≡ n → ListedTo T L₀ base raised lines (c + 1) L' n' × (n' ≤ c + 1)
      listed_same e p q = rw (p, q) (both_same e, omega (arith, few))

-- ---- a row of a list, lent by itself
pub row_at : (A : List ℕ) (base w c : ℕ) → c < w → get_or (take (base + w - base) (drop base A)) c 0 ≡ get_or A (base + c) 0
row_at A base w c h = get_or-take (base + w - base) (drop base A) c 0 (omega arith) ∙ get_or-drop base A c 0

pub row_length : (A : List ℕ) (base w : ℕ) → base + w ≤ length A → length (take (base + w - base) (drop base A)) ≡ w
row_length A base w h = length-take-le (base + w - base) (drop base A) (simp length-drop (omega arith)) ∙ omega arith
