-- Laws of the copy of a point's noted cells, note by note.
use mathlib.Core.Path.{◌≡◌, refl, sym, ap, ◌∙◌}
use mathlib.Core.Logic.{◌⊎◌, inl, inr}
use mathlib.Core.List.{List}
use Prim.Native.Nat.{ℕ, ◌+◌, ◌*◌, ◌≤◌, ◌<◌}
use native.Mathlib.Decide.{ℕ_discrete}
use native.Mathlib.Omega.{arith}
use lib.ListN.{length, get_or, set, length-set}
use lib.Seq.{get_or-set_same, get_or-set_other}
use Rattle.rules_listed.specs.Places.{Listed}
use Rattle.rounds_tables.specs.Settling.{LinesAt, CellLent, AfterCell, AfterPoint}
use Rattle.rounds_tables.proofs.LineLists.{lines_kept}
use Rattle.rounds_tables.proofs.NotedLaws.{NotedAt}

-- where the copy stands at note i: the noted cells passed are the source's, their places are listed as raised, and the lines are those of the table as it is
pub record CopiedTo (w : ℕ) (S T₀ notes L₀ : List ℕ) (base raised lines i : ℕ) (T L : List ℕ) (lined : ℕ) : Type 0 where
  pub lines_are : LinesAt w T L base lines lined
  pub passed : (j : ℕ) → j < i → get_or T (base + get_or notes (base + j) 0) 0 ≡ get_or S (base + get_or notes (base + j) 0) 0
  pub either : (t : ℕ) → t < w → (get_or T (base + t) 0 ≡ get_or S (base + t) 0) ⊎ (get_or T (base + t) 0 ≡ get_or T₀ (base + t) 0)
  pub before_same : (c : ℕ) → c < base → get_or T c 0 ≡ get_or T₀ c 0
  pub past_same : (c : ℕ) → base + w ≤ c → get_or T c 0 ≡ get_or T₀ c 0
  pub raised_are : (j : ℕ) → j < i → get_or L (raised + j) 0 ≡ get_or notes (base + j) 0
  pub lists_before : (c : ℕ) → c < raised → get_or L c 0 ≡ get_or L₀ c 0
  pub lists_past : (c : ℕ) → lines + w ≤ c → get_or L c 0 ≡ get_or L₀ c 0
  pub target_long : length T ≡ length T₀
  pub lists_long : length L ≡ length L₀

pub copied_none : (w : ℕ) (S T notes L : List ℕ) (base raised lines lined : ℕ) → LinesAt w T L base lines lined → CopiedTo w S T notes L base raised lines 0 T L lined
copied_none w S T notes L base raised lines lined h = record { lines_are = h; passed = λ j k. absurd (omega arith); either = λ t k. inr refl; before_same = λ c k. refl; past_same = λ c k. refl; raised_are = λ j k. absurd (omega arith); lists_before = λ c k. refl; lists_past = λ c k. refl; target_long = refl; lists_long = refl }

module _ (w : ℕ) (S T₀ notes L₀ : List ℕ) (base raised lines n : ℕ) (narrow : w ≤ 65536) (source_fits : base + w ≤ length S) (target_fits : base + w ≤ length T₀) (apart : raised + w ≤ lines) (lists_fit : lines + w ≤ length L₀) (noted : NotedAt w S T₀ notes base n) where
  module _ (i : ℕ) (T L : List ℕ) (lined : ℕ) (inside : i < n) (sofar : CopiedTo w S T₀ notes L₀ base raised lines i T L lined) (place : ℕ) (place_is : place ≡ get_or notes (base + i) 0) where
    -- the lists with the place among the raised ones
    abbrev M : List ℕ
    M = set L (raised + i) (get_or notes (base + i) 0)

    place_in : place < w
    place_in = omega (arith, noted.within i inside)

    raised_fits : raised + i < lines
    raised_fits = omega (arith, noted.few)

    pub cell_lent : CellLent w S T (set L (raised + i) (get_or notes (base + i) 0)) base lines lined place
    cell_lent = record { narrow = narrow; place_in = place_in; long_source = source_fits; long_target = omega (arith, sofar.target_long); lists_long = simp length-set (omega (arith, sofar.lists_long)); above = rw place_is (omega (arith, noted.higher i inside)); lines_are = lines_kept w T T L M base lines lined sofar.lines_are (λ t h. refl) (simp length-set sofar.lines_are.places.long) (λ j h. get_or-set_other L (raised + i) (lines + j) _ 0 (λ q. omega (arith, raised_fits))) }

    module _ (T' L' : List ℕ) (lined' : ℕ) (one : AfterCell w S T (set L (raised + i) (get_or notes (base + i) 0)) T' L' base lines place lined') (target_long : length T' ≡ length T) (lists_long : length L' ≡ length (set L (raised + i) (get_or notes (base + i) 0))) where
      cell_now : get_or T' (base + place) 0 ≡ get_or S (base + place) 0
      cell_now = ap (λ (l : List ℕ). get_or l (base + place) 0) one.target_is ∙ get_or-set_same T (base + place) _ 0 (omega (arith, place_in, sofar.target_long))

      cells_other : (c : ℕ) → (c ≡ base + place → ⊥) → get_or T' c 0 ≡ get_or T c 0
      cells_other c d = ap (λ (l : List ℕ). get_or l c 0) one.target_is ∙ get_or-set_other T (base + place) c _ 0 d

      cell_taken : (t : ℕ) → t ≡ place → get_or T' (base + t) 0 ≡ get_or S (base + t) 0
      cell_taken t e = rw e cell_now

      passed_now : (j : ℕ) → j < i + 1 → Dec (j ≡ i) → Dec (get_or notes (base + j) 0 ≡ place) → get_or T' (base + get_or notes (base + j) 0) 0 ≡ get_or S (base + get_or notes (base + j) 0) 0
      passed_now j h d (yes q) = cell_taken (get_or notes (base + j) 0) q
      passed_now j h (yes e) (no q) = absurd (q (ap (λ (x : ℕ). get_or notes (base + x) 0) e ∙ sym place_is))
      passed_now j h (no e) (no q) = cells_other (base + get_or notes (base + j) 0) (λ r. q (omega arith)) ∙ sofar.passed j (omega arith)

      either_now : (t : ℕ) → t < w → Dec (t ≡ place) → (get_or T (base + t) 0 ≡ get_or S (base + t) 0) ⊎ (get_or T (base + t) 0 ≡ get_or T₀ (base + t) 0) → (get_or T' (base + t) 0 ≡ get_or S (base + t) 0) ⊎ (get_or T' (base + t) 0 ≡ get_or T₀ (base + t) 0)
      either_now t h (yes e) was = inl (cell_taken t e)
      either_now t h (no e) (inl was) = inl (cells_other (base + t) (λ q. e (omega arith)) ∙ was)
      either_now t h (no e) (inr was) = inr (cells_other (base + t) (λ q. e (omega arith)) ∙ was)

      listed_now : (j : ℕ) → j < i + 1 → Dec (j ≡ i) → get_or L' (raised + j) 0 ≡ get_or notes (base + j) 0
      listed_now j h (yes e) = one.before_stay (raised + j) (omega (arith, raised_fits)) ∙ rw e (get_or-set_same L (raised + i) _ 0 (omega (arith, raised_fits, sofar.lists_long)))
      listed_now j h (no e) = one.before_stay (raised + j) (omega (arith, raised_fits)) ∙ get_or-set_other L (raised + i) (raised + j) _ 0 (λ q. e (omega arith)) ∙ sofar.raised_are j (omega arith)

      pub copied_more : CopiedTo w S T₀ notes L₀ base raised lines (i + 1) T' L' lined'
      copied_more = record {
        lines_are = one.lines_are;
        passed = λ j h. passed_now j h (ℕ_discrete j i) (ℕ_discrete (get_or notes (base + j) 0) place);
        either = λ t h. either_now t h (ℕ_discrete t place) (sofar.either t h);
        before_same = λ c h. cells_other c (λ q. omega arith) ∙ sofar.before_same c h;
        past_same = λ c h. cells_other c (λ q. omega (arith, place_in)) ∙ sofar.past_same c h;
        raised_are = λ j h. listed_now j h (ℕ_discrete j i);
        lists_before = λ c h. one.before_stay c (omega (arith, raised_fits)) ∙ get_or-set_other L (raised + i) c _ 0 (λ q. omega arith) ∙ sofar.lists_before c h;
        lists_past = λ c h. one.past_stay c h ∙ get_or-set_other L (raised + i) c _ 0 (λ q. omega (arith, raised_fits)) ∙ sofar.lists_past c h;
        target_long = target_long ∙ sofar.target_long;
        lists_long = lists_long ∙ simp length-set sofar.lists_long;
      }

-- ---- all notes of point y
module _ (w : ℕ) (S T₀ notes L₀ : List ℕ) (n y i : ℕ) (T L : List ℕ) (lined : ℕ) (at_end : i ≡ n) (lists_fit : (2 * y + 1) * w + w ≤ length L₀) (noted : NotedAt w S T₀ notes (y * w) n) (sofar : CopiedTo w S T₀ notes L₀ (y * w) (2 * y * w) ((2 * y + 1) * w) i T L lined) where
  listed_all : (t : ℕ) → Listed notes (y * w) n t → Listed L (2 * y * w) n t
  listed_all t l = record { at = l.at; below = l.below; is = sofar.raised_are l.at (omega (arith, l.below)) ∙ l.is }

  cell_is : (t : ℕ) → t < w → get_or T (y * w + t) 0 ≡ get_or S (y * w + t) 0
  cell_is t h = go (sofar.either t h) (ℕ_discrete (get_or S (y * w + t) 0) (get_or T₀ (y * w + t) 0))
    where
      go : (get_or T (y * w + t) 0 ≡ get_or S (y * w + t) 0) ⊎ (get_or T (y * w + t) 0 ≡ get_or T₀ (y * w + t) 0) → Dec (get_or S (y * w + t) 0 ≡ get_or T₀ (y * w + t) 0) → get_or T (y * w + t) 0 ≡ get_or S (y * w + t) 0
      go (inl e) d = e
      go (inr e) (yes q) = e ∙ sym q
      go (inr e) (no q) =
          let l = noted.all t h q in
          rw l.is at (sofar.passed l.at (omega (arith, l.below)))

  pub all_copied : AfterPoint w S T₀ T L₀ L n y lined
  all_copied = record {
    cells_are = cell_is;
    before_same = sofar.before_same;
    past_same = sofar.past_same;
    raised_are = record { long = omega (arith, noted.few, sofar.lists_long); within = λ j h. omega (arith, sofar.raised_are j (omega arith), noted.within j h) };
    all_raised = λ t h d. listed_all t (noted.all t h d);
    lines_are = sofar.lines_are;
    lists_before = sofar.lists_before;
    lists_past = sofar.lists_past;
  }
