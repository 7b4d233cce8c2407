-- The rows tried one after the other: marks only go from 1 to 0, the remaining rows stay broken, and each was needed when it was tried and so is in the end.
use mathlib.Core.Path.{◌≡◌, refl, sym, ◌∙◌}
use mathlib.Core.Bool.{Bool, true, false, cond, true≢false}
use mathlib.Core.List.{List}
use Prim.Native.Nat.{ℕ, zero, suc, ◌≤◌, ◌<◌}
use native.Mathlib.Decide.{ℕ_discrete, dec_lt}
use native.Mathlib.Omega.{arith}
use lib.ListN.{length, get_or, set, length-set, length-replicate, get_or-replicate}
use lib.Seq.{get_or-set_same, get_or-set_other}
use Rattle.plan.specs.Plan.{Plan}
use Rattle.plan.specs.Layout.{plan_of}
use Rattle.plan.specs.Refusal.{Accepted}
use Rattle.plan_rows.specs.Rows.{marked}
use Rattle.plan_rows.proofs.Marked.{marked_in}
use Rattle.rounds.specs.Meaning.{IsKept, IsBroken}
use Rattle.minimal_rows.specs.Trials.{trial_outcome, is_broken, all_rows, no_rows, try_row, tried_to, breaking_marks}
use Rattle.minimal_rows.specs.AfterBreakingRows.{Minimal}
use Rattle.minimal_rows.proofs.TrialLaws.{broken_is, is_broken_lem, kept_not_broken, trial_verdict, trial_means, kept_panel, more_broken}

-- each of the first n rows that has mark 1 in ms has it in ns
abbrev pub Fewer : ℕ → List ℕ → List ℕ → Type 0
Fewer n ms ns = (i : ℕ) → i < n → get_or ms i 0 ≡ 1 → get_or ns i 0 ≡ 1

-- a row without its mark
pub left_out : (ms : List ℕ) (i : ℕ) → i < length ms → get_or (set ms i 0) i 0 ≡ 1 → ⊥
left_out ms i h e = omega (arith, e, get_or-set_same ms i 0 0 h)

pub without_fewer : (ms ns : List ℕ) (i : ℕ) → Fewer (length ms) ms ns → Fewer (length ms) (set ms i 0) (set ns i 0)
without_fewer ms ns i f j h e = go (ℕ_discrete j i)
  where
    go : Dec (j ≡ i) → get_or (set ns i 0) j 0 ≡ 1
    go (yes q) = absurd (left_out ms i (rw q at h) (rw q at e))
    go (no q) = get_or-set_other ns i j 0 0 q ∙ f j h (sym (get_or-set_other ms i j 0 0 q) ∙ e)

pub without_less : (ms : List ℕ) (i : ℕ) → Fewer (length ms) (set ms i 0) ms
without_less ms i j h e = go (ℕ_discrete j i)
  where
    go : Dec (j ≡ i) → get_or ms j 0 ≡ 1
    go (yes q) = absurd (left_out ms i (rw q at h) (rw q at e))
    go (no q) = sym (get_or-set_other ms i j 0 0 q) ∙ e

module _ (P : Plan) where
  -- ---- one row tried
  module _ (i : ℕ) (ms : List ℕ) where
    pub tried_broken : is_broken (trial_outcome P (set ms i 0)) ≡ true → try_row P i ms ≡ set ms i 0
    unfolding try_row
    tried_broken e = rw e refl

    pub tried_kept : is_broken (trial_outcome P (set ms i 0)) ≡ false → try_row P i ms ≡ ms
    unfolding try_row
    tried_kept e = rw e refl

    -- what holds of the marks with and without the row holds of those tried
    tried_either : (Q : List ℕ → Type 0) → Q (set ms i 0) → Q ms → Q (try_row P i ms)
    unfolding try_row
    tried_either Q a b = go (is_broken (trial_outcome P (set ms i 0)))
      where
        go : (t : Bool) → Q (cond t (set ms i 0) ms)
        go true = a
        go false = b

  -- ---- the first n rows
  pub tried_length : (n : ℕ) → length (tried_to P n) ≡ P.edges
  unfolding tried_to
  tried_length zero = length-replicate P.edges 1
  tried_length (suc n) = let k = tried_length n in tried_either _ (tried_to P n) (λ ms. length ms ≡ P.edges) (length-set (tried_to P n) _ 0 ∙ k) k

  -- a row that has not been tried remains
  pub tried_ahead : (n i : ℕ) → n ≤ i → i < P.edges → get_or (tried_to P n) i 0 ≡ 1
  unfolding tried_to
  tried_ahead zero i h k = get_or-replicate P.edges i 1 0 k
  tried_ahead (suc n) i h k =
      let e = tried_ahead n i (omega arith) k in
      tried_either _ (tried_to P n) (λ ms. get_or ms i 0 ≡ 1) (get_or-set_other (tried_to P n) _ i 0 0 (λ q. omega arith) ∙ e) e

  -- no mark goes back to 1
  pub tried_fewer : (m n : ℕ) → n ≤ m → Fewer P.edges (tried_to P m) (tried_to P n)
  unfolding tried_to
  tried_fewer zero n h i k e = let q : n ≡ 0 = omega arith in rw q e
  tried_fewer (suc m) n h i k e = go (tried_fewer m n) (ℕ_discrete n (suc m))
    where
      before : get_or (tried_to P (suc m)) i 0 ≡ 1 → get_or (tried_to P m) i 0 ≡ 1
      before = tried_either m (tried_to P m) (λ ms. get_or ms i 0 ≡ 1 → get_or (tried_to P m) i 0 ≡ 1) (without_less (tried_to P m) m i (rw (tried_length m) k)) (λ e. e)

      go : (n ≤ m → Fewer P.edges (tried_to P m) (tried_to P n)) → Dec (n ≡ suc m) → get_or (tried_to P n) i 0 ≡ 1
      go r (yes q) = rw q e
      go r (no q) = r (omega arith) i k (before e)

  -- a row that remains was needed when it was tried
  needed_then : (i : ℕ) → i < P.edges → get_or (tried_to P (suc i)) i 0 ≡ 1 → is_broken (trial_outcome P (set (tried_to P i) i 0)) ≡ false
  unfolding tried_to
  needed_then i h e = go (is_broken (trial_outcome P (set (tried_to P i) i 0))) refl
    where
      go : (t : Bool) → is_broken (trial_outcome P (set (tried_to P i) i 0)) ≡ t → t ≡ false
      go true q = absurd (left_out (tried_to P i) i (rw (tried_length i) h) (rw (tried_broken i (tried_to P i) q) at e))
      go false q = refl

-- ---- of a plan that is broken
module _ (bs : List ℕ) (accepted : Accepted bs) where
  abbrev P : Plan
  P = plan_of bs

  still_broken : is_broken (trial_outcome P (all_rows P)) ≡ true → (n : ℕ) → is_broken (trial_outcome P (tried_to P n)) ≡ true
  unfolding tried_to
  still_broken b zero = b
  still_broken b (suc n) = go (is_broken (trial_outcome P (set (tried_to P n) n 0))) refl (still_broken b n)
    where
      go : (t : Bool) → is_broken (trial_outcome P (set (tried_to P n) n 0)) ≡ t → is_broken (trial_outcome P (tried_to P n)) ≡ true → is_broken (trial_outcome P (try_row P n (tried_to P n))) ≡ true
      go true q h = rw (tried_broken P n (tried_to P n) q) q
      go false q h = rw (tried_kept P n (tried_to P n) q) h

  -- and so it is in the end: with fewer rows left, the rest without it is kept all the more
  needed_now : (i : ℕ) → i < P.edges → get_or (breaking_marks P) i 0 ≡ 1 → is_broken (trial_outcome P (set (breaking_marks P) i 0)) ≡ false
  needed_now i h e = go (is_broken (trial_outcome P (set (breaking_marks P) i 0))) refl
    where
      sized : (n : ℕ) → length (set (tried_to P n) i 0) ≡ P.edges
      sized n = length-set (tried_to P n) i 0 ∙ tried_length P n

      fewer : Fewer P.edges (set (breaking_marks P) i 0) (set (tried_to P i) i 0)
      fewer = rw (tried_length P P.edges) at (without_fewer (breaking_marks P) (tried_to P i) i (rw (tried_length P P.edges) (tried_fewer P P.edges i (omega arith))))

      go : (t : Bool) → is_broken (trial_outcome P (set (breaking_marks P) i 0)) ≡ t → t ≡ false
      go true q = absurd (true≢false (sym (more_broken bs accepted (set (breaking_marks P) i 0) (set (tried_to P i) i 0) (sized P.edges) (sized i) fewer q) ∙ needed_then P i h (tried_fewer P P.edges (suc i) (omega arith) i h e)))
      go false q = refl

  pub breaking_minimal : is_broken (trial_outcome P (all_rows P)) ≡ true → Minimal bs (breaking_marks P)
  breaking_minimal b = record {
    still_broken = broken;
    each_needed = needed;
    no_panel = (trial_means bs accepted (breaking_marks P) (tried_length P P.edges)).means.broken_no_panel broken;
    panel_without = λ i h e. kept_panel bs accepted (set (breaking_marks P) i 0) (sized i) (needed i h e);
  }
    where
      broken : IsBroken (trial_outcome P (breaking_marks P))
      broken = broken_is (trial_outcome P (breaking_marks P)) (still_broken b P.edges)

      sized : (i : ℕ) → length (set (breaking_marks P) i 0) ≡ P.edges
      sized i = length-set (breaking_marks P) i 0 ∙ tried_length P P.edges

      needed : (i : ℕ) → i < P.edges → get_or (breaking_marks P) i 0 ≡ 1 → IsKept (trial_outcome P (set (breaking_marks P) i 0))
      needed i h e = kept_not_broken (trial_outcome P (set (breaking_marks P) i 0)) (trial_verdict bs accepted (set (breaking_marks P) i 0) (sized i)) (needed_now i h e)

  -- where the links alone are broken no row is needed
  pub links_alone : IsBroken (trial_outcome P (no_rows P)) → length (marked (breaking_marks P)) ≡ 0
  links_alone b = go (dec_lt 0 (length (marked (breaking_marks P))))
    where
      sized : (i : ℕ) → length (set (breaking_marks P) i 0) ≡ P.edges
      sized i = length-set (breaking_marks P) i 0 ∙ tried_length P P.edges

      still : (i : ℕ) → is_broken (trial_outcome P (set (breaking_marks P) i 0)) ≡ true
      still i =
          more_broken bs accepted (no_rows P) (set (breaking_marks P) i 0) (length-replicate P.edges 0) (sized i)
          (λ j h e. absurd (omega (arith, e, get_or-replicate {A = ℕ} P.edges j 0 0 h))) (is_broken_lem (trial_outcome P (no_rows P)) b)

      go : Dec (0 < length (marked (breaking_marks P))) → length (marked (breaking_marks P)) ≡ 0
      go (yes h) =
          let r = marked_in (breaking_marks P) 0 h in
          let i = get_or (marked (breaking_marks P)) 0 0 in
          absurd (true≢false (sym (still i) ∙ needed_now i (omega (arith, r.0, tried_length P P.edges)) r.1))
      go (no h) = omega arith
