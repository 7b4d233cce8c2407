-- The positions that an order of the points gives are those of a strategy (17.5).
use mathlib.Core.Path.{◌≡◌, refl}
use mathlib.Core.Bool.{true, false}
use mathlib.Core.Logic.{◌⊎◌, inl, inr}
use Prim.Native.Nat.{ℕ, suc, ◌≤◌, ◌<◌}
use native.Mathlib.Decide.{dec_lt}
use native.Mathlib.Omega.{arith}
use lib.Dec.{T as Is, ltb, ltb→lt, lt→ltb}
use Rattle.plan.specs.Plan.{Plan}
use Rattle.plan.specs.Refusal.{differs}
use Rattle.plan.proofs.CountLaws.{count_few, count_same, count_lt}
use Rattle.plan.proofs.Ranges.{WellFormed, differs_at, differs_of}
use Rattle.plan.proofs.Truth.{is?, is_true}
use Rattle.rules_panel.specs.Positions.{observed_before, position_by}
use Rattle.rules_panel.specs.Strategies.{NoEnd, NotObserving}

pub no_end_test : (P : Plan) (x : ℕ) → NoEnd P x → Is (differs P.finish x P.links)
no_end_test P x n = differs_of P.finish x P.links n.no_end

pub observer_no_end : {P : Plan} → WellFormed P → (j : ℕ) → j < P.propositions → NoEnd P (P.observer j)
observer_no_end wf j h = record { no_end = λ i k e. wf.finish_observes_none i j k h e }

same_not : (f : ℕ → ℕ) (x n i : ℕ) → i < n → f i ≡ x → differs f x n ≡ false
same_not f x n i h e = go (is? (differs f x n))
  where
    go : Is (differs f x n) ⊎ (differs f x n ≡ false) → differs f x n ≡ false
    go (inl t) = absurd (differs_at f x n i t h e)
    go (inr q) = q

module _ {P : Plan} (wf : WellFormed P) (rank : ℕ → ℕ) where
  pub position_end : (i : ℕ) → i < P.links → position_by P rank (P.finish i) ≡ 0
  unfolding position_by
  position_end i h = rw (same_not P.finish (P.finish i) P.links i h refl)

  position_observer : (j : ℕ) → j < P.propositions → position_by P rank (P.observer j) ≡ suc (observed_before P rank (P.observer j))
  unfolding position_by
  position_observer j h = rw (is_true (differs P.finish (P.observer j) P.links) (no_end_test P (P.observer j) (observer_no_end wf j h)), same_not P.observer (P.observer j) P.propositions j h refl)

  pub position_other : (x : ℕ) → NoEnd P x → NotObserving P x → position_by P rank x ≡ suc P.propositions
  unfolding position_by
  position_other x n m = rw (is_true (differs P.finish x P.links) (no_end_test P x n), is_true (differs P.observer x P.propositions) (differs_of P.observer x P.propositions (λ j h e. m.not_observing j h e)))

  before_lt : (j x : ℕ) → j < P.propositions → rank (P.observer j) < rank x → observed_before P rank (P.observer j) < observed_before P rank x
  unfolding observed_before
  before_lt j x h l =
      count_lt (λ i. ltb (rank (P.observer i)) (rank (P.observer j))) (λ i. ltb (rank (P.observer i)) (rank x)) P.propositions
      (λ i k t. lt→ltb (rank (P.observer i)) (rank x) (omega (arith, ltb→lt (rank (P.observer i)) (rank (P.observer j)) t))) j h
      (λ t. omega (arith, ltb→lt (rank (P.observer j)) (rank (P.observer j)) t)) (lt→ltb _ _ l)

  pub position_from : (j : ℕ) → j < P.propositions → 0 < position_by P rank (P.observer j)
  position_from j h = omega (arith, position_observer j h)

  pub position_to : (j : ℕ) → j < P.propositions → position_by P rank (P.observer j) ≤ P.propositions
  unfolding observed_before
  position_to j h =
      let a = count_lt (λ i. ltb (rank (P.observer i)) (rank (P.observer j))) (λ i. true) P.propositions (λ i k t. tt) j h (λ t. omega (arith, ltb→lt (rank (P.observer j)) (rank (P.observer j)) t)) tt in
      omega (arith, position_observer j h, a, count_few (λ i. true) P.propositions)

  -- what observes and came before another point that is no end has a lower position
  pub position_lower : (j x : ℕ) → j < P.propositions → NoEnd P x → rank (P.observer j) < rank x → position_by P rank (P.observer j) < position_by P rank x
  unfolding position_by
  position_lower j x h n l = go (is? (differs P.observer x P.propositions))
    where
      go : Is (differs P.observer x P.propositions) ⊎ (differs P.observer x P.propositions ≡ false) → position_by P rank (P.observer j) < position_by P rank x
      go (inl t) = omega (arith, position_to j h, position_other x n (record { not_observing = λ k hk e. differs_at P.observer x P.propositions k t hk e }))
      go (inr e) = rw (is_true (differs P.finish x P.links) (no_end_test P x n), e) (omega (arith, position_observer j h, before_lt j x h l))

  -- observing points that came in different steps have different positions
  pub position_distinct : (i j : ℕ) → i < P.propositions → j < P.propositions → (rank (P.observer i) ≡ rank (P.observer j) → i ≡ j) → position_by P rank (P.observer i) ≡ position_by P rank (P.observer j) → i ≡ j
  position_distinct i j h k same e = go (dec_lt (rank (P.observer i)) (rank (P.observer j))) (dec_lt (rank (P.observer j)) (rank (P.observer i)))
    where
      go : Dec (rank (P.observer i) < rank (P.observer j)) → Dec (rank (P.observer j) < rank (P.observer i)) → i ≡ j
      go (yes l) q = absurd (omega (arith, e, position_observer i h, position_observer j k, before_lt i (P.observer j) h l))
      go (no l) (yes m) = absurd (omega (arith, e, position_observer i h, position_observer j k, before_lt j (P.observer i) k m))
      go (no l) (no m) = same (omega arith)

-- the position of x in two states that agree on what observes before x
pub position_same : (P : Plan) (rank other : ℕ → ℕ) (x : ℕ) → ((j : ℕ) → j < P.propositions → ltb (rank (P.observer j)) (rank x) ≡ ltb (other (P.observer j)) (other x)) → position_by P rank x ≡ position_by P other x
unfolding position_by observed_before
position_same P rank other x h = rw (count_same (λ j. ltb (rank (P.observer j)) (rank x)) (λ j. ltb (other (P.observer j)) (other x)) P.propositions h)
