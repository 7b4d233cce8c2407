-- Rows tried together: where the rest is still broken without all of them, each of them would be left out one by one.
use mathlib.Core.Path.{◌≡◌, refl, sym, ap, ◌∙◌}
use mathlib.Core.Bool.{true, false}
use mathlib.Core.List.{List, [], ◌∷◌, ◌++◌}
use Prim.Native.Nat.{ℕ, zero, suc, ◌+◌, ◌≤◌, ◌<◌}
use native.Mathlib.Nat.{add-zero, add-suc, zero-add}
use native.Mathlib.Numerals.{add-one}
use native.Mathlib.Omega.{arith}
use lib.ListN.{length, get_or, take, drop, set, replicate, length-set, length-replicate}
use lib.Seq.{drop-cons, set_at, take-set-lt, drop-set-lt, set-set, set_comm, set-get_or}
use Rattle.std.proofs.lemmas.List.Edits.{fill_from_more}
use lib.Seq.{paste, paste-zero}
use Rattle.plan.specs.Plan.{Plan}
use Rattle.plan.specs.Layout.{plan_of}
use Rattle.plan.specs.Refusal.{Accepted}
use Rattle.minimal_rows.specs.Trials.{trial_outcome, is_broken, tried_to}
use Rattle.minimal_rows.specs.Reducing.{set_run}
use Rattle.minimal_rows.proofs.TrialLaws.{more_broken}
use Rattle.minimal_rows.proofs.ProcedureLaws.{without_less, tried_broken, tried_kept, tried_length}

module _ (m i : ℕ) where
  -- the marks written at once
  pub run_pasted : (n : ℕ) (ms : List ℕ) → i + n ≤ length ms → set_run m i n ms ≡ paste ms i (replicate n m) n
  unfolding set_run
  run_pasted zero ms h = paste-zero ms i []
  run_pasted (suc n) ms h = ap (λ (l : List ℕ). set l (i + n) m) (run_pasted n ms (omega arith)) ∙ rw add-one at (fill_from_more ms i n m (omega arith))

  pub run_length : (n : ℕ) (ms : List ℕ) → length (set_run m i n ms) ≡ length ms
  unfolding set_run
  run_length zero ms = refl
  run_length (suc n) ms = length-set (set_run m i n ms) (i + n) m ∙ run_length n ms

  -- the first e marks, and those past them
  pub take_run : (e n : ℕ) (ms : List ℕ) → i + n ≤ e → take e (set_run m i n ms) ≡ set_run m i n (take e ms)
  unfolding set_run
  take_run e zero ms h = refl
  take_run e (suc n) ms h = take-set-lt e (set_run m i n ms) (i + n) m (omega arith) ∙ ap (λ (l : List ℕ). set l (i + n) m) (take_run e n ms (omega arith))

  pub drop_run : (e n : ℕ) (ms : List ℕ) → i + n ≤ e → drop e (set_run m i n ms) ≡ drop e ms
  unfolding set_run
  drop_run e zero ms h = refl
  drop_run e (suc n) ms h = drop-set-lt e (set_run m i n ms) (i + n) m (omega arith) ∙ drop_run e n ms (omega arith)

  -- a mark past them does not matter
  run_set : (n : ℕ) (ms : List ℕ) (j v : ℕ) → i + n ≤ j → set_run m i n (set ms j v) ≡ set (set_run m i n ms) j v
  unfolding set_run
  run_set zero ms j v h = refl
  run_set (suc n) ms j v h = ap (λ (l : List ℕ). set l (i + n) m) (run_set n ms j v (omega arith)) ∙ set_comm (set_run m i n ms) j (i + n) v m (λ q. omega arith)

-- marks that were 1, taken away and given back
pub run_back : (i n : ℕ) (ms : List ℕ) → ((k : ℕ) → k < n → get_or ms (i + k) 0 ≡ 1) → set_run 1 i n (set_run 0 i n ms) ≡ ms
unfolding set_run
run_back i zero ms ones = refl
run_back i (suc n) ms ones =
    ap (λ (l : List ℕ). set l (i + n) 1) (run_set 1 i n (set_run 0 i n ms) (i + n) 0 (omega arith) ∙ ap (λ (l : List ℕ). set l (i + n) 0) (run_back i n ms (λ k h. ones k (omega arith))))
    ∙ set-set ms (i + n) 0 1 ∙ ap (set ms (i + n)) (sym (ones n (omega arith))) ∙ set-get_or ms (i + n) 0

-- all marks set
one_more : (n : ℕ) (L : List ℕ) → replicate n 1 ++ 1 ∷ L ≡ 1 ∷ replicate n 1 ++ L
one_more zero L = refl
one_more (suc n) L = ap (◌∷◌ 1) (one_more n L)

pub run_all : (n : ℕ) (ms : List ℕ) → n ≤ length ms → set_run 1 0 n ms ≡ replicate n 1 ++ drop n ms
unfolding set_run
run_all zero ms h = refl
run_all (suc n) ms h =
    ap (λ (k : ℕ). set (set_run 1 0 n ms) k 1) (zero-add n)
    ∙ ap (λ (l : List ℕ). set l n 1) (run_all n ms (omega arith) ∙ ap (λ (l : List ℕ). replicate n 1 ++ l) (drop-cons ms n 0 h))
    ∙ set_at (replicate n 1) (get_or ms n 0) (drop (suc n) ms) 1 n (length-replicate n 1)
    ∙ one_more n (drop (suc n) ms)

-- ---- rows of a plan
module _ (bs : List ℕ) (accepted : Accepted bs) (i : ℕ) where
  abbrev P : Plan
  P = plan_of bs

  -- with one row fewer left out it is still broken
  pub run_broken : (n : ℕ) → is_broken (trial_outcome P (set_run 0 i n (tried_to P i))) ≡ true → tried_to P (i + n) ≡ set_run 0 i n (tried_to P i)
  unfolding set_run tried_to
  run_broken zero b = ap (tried_to P) (add-zero i)
  run_broken (suc n) b =
      let ms = set_run 0 i n (tried_to P i) in
      let sized : length ms ≡ P.edges = run_length 0 i n (tried_to P i) ∙ tried_length P i in
      let before = run_broken n (more_broken bs accepted (set ms (i + n) 0) ms (length-set ms (i + n) 0 ∙ sized) sized (rw sized at (without_less ms (i + n))) b) in
      rw (add-suc i n, before) (tried_broken P (i + n) ms b)

  -- a single row that stays
  pub run_kept : is_broken (trial_outcome P (set_run 0 i 1 (tried_to P i))) ≡ false → tried_to P (i + 1) ≡ tried_to P i
  unfolding set_run tried_to
  run_kept b = rw add-one (tried_kept P i (tried_to P i) (rw add-zero at b))
