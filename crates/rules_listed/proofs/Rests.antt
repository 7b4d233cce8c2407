-- The loops over listed places make the shapes of the rules.
use mathlib.Core.Path.{◌≡◌, refl, sym, ap, ◌∙◌}
use mathlib.Core.Bool.{Bool, true, false, cond, not, ◌&&◌}
use mathlib.Core.List.{List}
use Prim.Native.Nat.{ℕ, ◌+◌, ◌*◌, ◌≤◌, ◌<◌}
use native.Mathlib.Omega.{arith}
use lib.Bits.{bit_or}
use lib.ListN.{length, get_or}
use Rattle.rules.specs.Tables.{raise_cell}
use Rattle.rules.proofs.Raising.{raise_none}
use Rattle.rules_fill.specs.declared.shapes.Propagator.{Propagator}
use Rattle.rules_fill.specs.declared.shapes.Remover.{Remover}
use Rattle.rules_fill.specs.Steps.{steps, when}
use Rattle.rules_fill.specs.Shapes.{touches, cleared, is_line, propagated, removed, removes, propagate_step, propagate_in, remove_step, remove_one, remove_cell, remove_from, remove_in, clear_cell, clear_from, clear_in}
use Rattle.rules_fill.specs.Cells.{AllJoin}
use Rattle.rules_fill.proofs.StepLaws.{when_true, when_false, steps_alike, steps_idle}
use Rattle.rules_fill.proofs.ShapeLaws.{cleared_le}
use Rattle.rules_listed.specs.Places.{Places, listed}
use Rattle.rules_listed.specs.Listed.{remove_with, remove_own_step, remove_other_with}
use Rattle.rules_listed.specs.Rests.{PropagateRest, RemoveRest, ClearRest}
use Rattle.rules_listed.proofs.Passing.{listed_alike, listed_all, pairs_all}

-- a step under a test, and a step by a wait that the test may make 0
raise_test : (b : Bool) (c w : ℕ) (B : List ℕ) → raise_cell c (cond b w 0) B ≡ when b (raise_cell c w) B
unfolding when
raise_test true c w B = refl
raise_test false c w B = sym (raise_none B c 0 (omega arith))

-- a test may stand outside a loop
test_out : (b : Bool) (f : ℕ → List ℕ → List ℕ) (n : ℕ) (B : List ℕ) → steps (λ i. when b (f i)) n B ≡ when b (steps f n) B
unfolding when
test_out true f n B = refl
test_out false f n B = steps_idle _ n (λ i h C. refl) B

-- ---- rules 1 to 3
pub propagate_all : (w : ℕ) (F L : List ℕ) (n mask : ℕ) (by : Propagator) (B C : List ℕ) → ((t : ℕ) → t < w → bit_or t by.add < w) → w ≤ length B → Places L (2 * by.from * w) n w → PropagateRest w F L n mask by B
    → C ≡ listed (propagate_step w F mask by.from by.avoid by.add by.up by.down) L (2 * by.from * w) n B → C ≡ propagate_in w F mask by.from by.avoid by.add by.up by.down B
unfolding propagate_in propagate_step
propagate_all w F L n mask by B C joins long p r e =
    e ∙ listed_all (λ t. bit_or t by.add) (λ t. propagated mask by.avoid by.add by.up by.down t (get_or F (by.from * w + t) 0)) w L (2 * by.from * w) n B (λ t h. omega (arith, joins t h)) p r.rest

-- ---- rule 5
pub clear_all : (w : ℕ) (F L : List ℕ) (n mask x : ℕ) (B C : List ℕ) → w ≤ length B → Places L (2 * x * w) n w → ClearRest w F L n mask x B → C ≡ listed (clear_from w F mask x) L (2 * x * w) n B → C ≡ clear_in w F mask x B
unfolding clear_in clear_from clear_cell
clear_all w F L n mask x B C long p r e =
    e ∙ listed_alike (clear_from w F mask x) one L (2 * x * w) n same B ∙ listed_all (λ t. cleared t mask) (λ t. cond (touches mask t) (get_or F (x * w + t) 0) 0) w L (2 * x * w) n B (λ t h. omega (arith, cleared_le t mask)) p r.rest
    ∙ steps_alike one (clear_from w F mask x) w (λ t h A. sym (same t A)) B
  where
    one : ℕ → List ℕ → List ℕ
    one t = raise_cell (cleared t mask) (cond (touches mask t) (get_or F (x * w + t) 0) 0)

    same : (t : ℕ) (A : List ℕ) → clear_from w F mask x t A ≡ one t A
    same t A = sym (raise_test (touches mask t) _ _ A)

-- ---- rules 4 and 6
module _ (w : ℕ) (F L : List ℕ) (by : Remover) (x : ℕ) where
  -- what a pair of lines gives, and where
  abbrev pair_place : ℕ → ℕ → ℕ
  pair_place t u = bit_or (cleared t by.mask) u

  abbrev pair_wait : ℕ → ℕ → ℕ
  pair_wait t u = removes by.mask by.add t (get_or F (x * w + t) 0) u (get_or F (by.other * w + u) 0)

  abbrev pair : ℕ → ℕ → List ℕ → List ℕ
  pair t u = raise_cell (pair_place t u) (pair_wait t u)

  -- each loop as one over pairs
  from_pairs : (t : ℕ) (A : List ℕ) → remove_from w F by.other by.mask by.add x t A ≡ steps (pair t) w A
  unfolding remove_from remove_cell remove_one remove_step removes
  from_pairs t A = sym (steps_alike _ _ w (λ u h D. raise_test (touches by.mask t) _ _ D) A ∙ test_out (touches by.mask t) _ w A)

  with_pairs : (n t : ℕ) (A : List ℕ) → remove_with w F L by n x t A ≡ listed (pair t) L ((2 * by.other + 1) * w) n A
  unfolding remove_with remove_step removes listed
  with_pairs n t A = sym (steps_alike _ _ n (λ i h D. raise_test (touches by.mask t) _ _ D) A ∙ test_out (touches by.mask t) _ n A)

  own_pair : (u t : ℕ) (A : List ℕ) → remove_own_step w F by x u (get_or F (by.other * w + u) 0) t A ≡ pair t u A
  unfolding remove_own_step removes
  own_pair u t A = sym (raise_test (touches by.mask t) _ _ A)

  -- a pair whose second place has a bit of the mask gives nothing
  pair_none : (t u : ℕ) → touches by.mask u ≡ true → pair_wait t u ≡ 0
  unfolding removes removed
  pair_none t u e = none (touches by.mask t) (is_line u (get_or F (by.other * w + u) 0)) (touches by.mask u) _ e
    where
      none : (a b c : Bool) (z : ℕ) → c ≡ true → cond a (cond (b && not c) z 0) 0 ≡ 0
      none true true c z q = rw q
      none true false c z q = refl
      none false b c z q = refl

  other_pairs : (n u : ℕ) (A : List ℕ) → remove_other_with w F L by n x u A ≡ listed (λ t. pair t u) L ((2 * x + 1) * w) n A
  unfolding remove_other_with listed
  other_pairs n u A = go (touches by.mask u) refl
    where
      go : (b : Bool) → touches by.mask u ≡ b → when (not (touches by.mask u)) (listed (remove_own_step w F by x u (get_or F (by.other * w + u) 0)) L ((2 * x + 1) * w) n) A ≡ listed (λ t. pair t u) L ((2 * x + 1) * w) n A
      go true e = sym (when_false (not (touches by.mask u)) _ A (ap not e)) ∙ sym (steps_idle _ n (λ i h C. sym (raise_none C _ _ (omega (arith, pair_none (get_or L ((2 * x + 1) * w + i) 0) u e)))) A)
      go false e = sym (when_true (not (touches by.mask u)) _ A (ap not e)) ∙ listed_alike _ (λ t. pair t u) L ((2 * x + 1) * w) n (own_pair u) A

  pub remove_all : (counts B C D : List ℕ) → AllJoin w → w ≤ length B
      → Places L (2 * x * w) (get_or counts (2 * x) 0) w → Places L ((2 * by.other + 1) * w) (get_or counts (2 * by.other + 1) 0) w
      → Places L (2 * by.other * w) (get_or counts (2 * by.other) 0) w → Places L ((2 * x + 1) * w) (get_or counts (2 * x + 1) 0) w → RemoveRest w F L counts x by B
      → C ≡ listed (remove_with w F L by (get_or counts (2 * by.other + 1) 0) x) L (2 * x * w) (get_or counts (2 * x) 0) B
      → D ≡ listed (remove_other_with w F L by (get_or counts (2 * x + 1) 0) x) L (2 * by.other * w) (get_or counts (2 * by.other) 0) C
      → D ≡ remove_in w F by.other by.mask by.add x B
  unfolding remove_in
  remove_all counts B C D joins long own_raised other_lines other_raised own_lines r e g =
      let first = listed_alike (remove_with w F L by (get_or counts (2 * by.other + 1) 0) x) (λ t. listed (pair t) L ((2 * by.other + 1) * w) (get_or counts (2 * by.other + 1) 0)) L (2 * x * w) (get_or counts (2 * x) 0) (with_pairs (get_or counts (2 * by.other + 1) 0)) B in
      g ∙ ap (listed (remove_other_with w F L by (get_or counts (2 * x + 1) 0) x) L (2 * by.other * w) (get_or counts (2 * by.other) 0)) (e ∙ first)
      ∙ listed_alike (remove_other_with w F L by (get_or counts (2 * x + 1) 0) x) (λ u. listed (λ t. pair t u) L ((2 * x + 1) * w) (get_or counts (2 * x + 1) 0)) L (2 * by.other * w) (get_or counts (2 * by.other) 0) (other_pairs (get_or counts (2 * x + 1) 0)) _
      ∙ pairs_all pair_place pair_wait w L (2 * x * w) (get_or counts (2 * x) 0) ((2 * by.other + 1) * w) (get_or counts (2 * by.other + 1) 0) (2 * by.other * w) (get_or counts (2 * by.other) 0) ((2 * x + 1) * w) (get_or counts (2 * x + 1) 0) B
      (λ t u h k. omega (arith, joins (cleared t by.mask) u (omega (arith, cleared_le t by.mask)) k)) own_raised other_lines other_raised own_lines r.rest
      ∙ steps_alike (λ t. steps (pair t) w) (remove_from w F by.other by.mask by.add x) w (λ t h A. sym (from_pairs t A)) B
