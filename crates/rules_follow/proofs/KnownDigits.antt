-- What a panel knows of a line's digits, and what of them is true in a drama.
use mathlib.Core.Path.{◌≡◌, refl, ◌∙◌}
use mathlib.Core.Bool.{Bool, true, false, ◌&&◌, ◌||◌, and-false}
use mathlib.Core.Logic.{◌⊎◌, inl, inr}
use Prim.Native.Nat.{ℕ, ◌<◌}
use native.Mathlib.Omega.{arith}
use lib.Dec.{T as Is, ltb, eqb, lt→ltb, eqb→eq}
use lib.Ieee.Fits.{and_r, and_i}
use borrow.Author.Tests.{le-ltb}
use Rattle.plan.specs.Label.{digit, join_digit, plain}
use Rattle.plan.specs.Plan.{Plan}
use Rattle.plan.proofs.Digits.{digit_lt, plain_known, plain_of, join_one}
use Rattle.plan.proofs.LabelLaws.{below4}
use Rattle.plan.proofs.Ranges.{every_at, every_of}
use Rattle.plan.proofs.Truth.{is_true, or_of}
use Rattle.rules_panel.specs.Dramas.{AnyDuration, Drama, True}
use Rattle.rules_follow.specs.Following.{State, executed, answer_digit, agrees_at, learnt, agrees}
use Rattle.rules_follow.proofs.Stepping.{Executed, done?}

-- it is yes or no
digit_plain : (b : Bool) → (0 < answer_digit b) × (answer_digit b < 3)
digit_plain true = omega arith
digit_plain false = omega arith

module _ {P : Plan} (r : Drama P AnyDuration) where
  -- absent, or the answer
  abbrev pub TrueDigit : ℕ → ℕ → Type 0
  TrueDigit j d = (d ≡ 0) ⊎ (d ≡ answer_digit (r.scenario j))

  pub true_plain : (j d : ℕ) → TrueDigit j d → d ≡ 3 → ⊥
  true_plain j d (inl p) e = omega arith
  true_plain j d (inr p) e = omega (arith, digit_plain (r.scenario j))

  pub true_joins : (j d e : ℕ) → TrueDigit j d → TrueDigit j e → TrueDigit j (join_digit d e)
  true_joins j d e a b = join_one (TrueDigit j) (answer_digit (r.scenario j)) d e a b a b

  -- the digits of a plain label that is true
  pub true_digit : (a : ℕ) → True P r.scenario a → Is (plain P.propositions a) → (j : ℕ) → j < P.propositions → TrueDigit j (digit a j)
  true_digit a t p j h = below4 (λ (d : ℕ). digit a j ≡ d → TrueDigit j d) (λ e. inl refl) (λ e. inr (rw (t.is_yes j h e))) (λ e. inr (rw (t.is_no j h e))) (λ e. absurd (plain_known P.propositions a j p h e)) (digit a j) (digit_lt a j) refl

  -- absent, or the answer, which has been learnt
  abbrev pub Known : State → ℕ → ℕ → Type 0
  Known s j d = (d ≡ 0) ⊎ (Executed s (P.observer j) × (d ≡ answer_digit (r.scenario j)))

  pub known_true : (s : State) (j d : ℕ) → Known s j d → TrueDigit j d
  known_true s j d (inl e) = inl e
  known_true s j d (inr e) = inr e.1

  pub known_plain : (s : State) (j d : ℕ) → Known s j d → d ≡ 3 → ⊥
  known_plain s j d k = true_plain j d (known_true s j d k)

  pub known_joins : (s : State) (j d e : ℕ) → Known s j d → Known s j e → Known s j (join_digit d e)
  known_joins s j d e a b = join_one (Known s j) (answer_digit (r.scenario j)) d e (known_true s j d a) (known_true s j e b) a b

  -- known, or of a proposition not learnt yet
  abbrev pub Agrees : State → ℕ → ℕ → Type 0
  Agrees s j d = Known s j d ⊎ (Executed s (P.observer j) → ⊥)

  learnt_is : (s : State) (j : ℕ) → j < P.propositions → Executed s (P.observer j) → learnt P r.scenario s j ≡ answer_digit (r.scenario j)
  learnt_is s j h d = rw (is_true (ltb j P.propositions && executed s (P.observer j)) (and_i (ltb j P.propositions) (executed s (P.observer j)) (lt→ltb j P.propositions h) (lt→ltb 0 (s.step (P.observer j)) d)))

  learnt_not : (s : State) (j : ℕ) → (Executed s (P.observer j) → ⊥) → learnt P r.scenario s j ≡ 0
  learnt_not s j n = rw (le-ltb 0 (s.step (P.observer j)) (omega arith), and-false (ltb j P.propositions))

  -- a true digit agrees with what has been learnt
  digit_agrees : (b : Bool) (answers : ℕ → ℕ) (j d : ℕ) → (d ≡ 0) ⊎ (d ≡ answer_digit b) → (answers j ≡ 0) ⊎ (answers j ≡ answer_digit b) → Is (agrees_at answers j d)
  digit_agrees b answers j d (inl e) a = rw e tt
  digit_agrees true answers j d (inr e) (inl a) = rw (e, a) tt
  digit_agrees true answers j d (inr e) (inr a) = rw (e, a) tt
  digit_agrees false answers j d (inr e) (inl a) = rw (e, a) tt
  digit_agrees false answers j d (inr e) (inr a) = rw (e, a) tt

  learnt_either : (s : State) (j : ℕ) → j < P.propositions → (learnt P r.scenario s j ≡ 0) ⊎ (learnt P r.scenario s j ≡ answer_digit (r.scenario j))
  learnt_either s j h = go (done? s (P.observer j))
    where
      go : Dec (Executed s (P.observer j)) → (learnt P r.scenario s j ≡ 0) ⊎ (learnt P r.scenario s j ≡ answer_digit (r.scenario j))
      go (yes d) = inr (learnt_is s j h d)
      go (no n) = inl (learnt_not s j n)

  -- so a true line does
  pub true_agrees : (s : State) (label : ℕ) → ((j : ℕ) → j < P.propositions → TrueDigit j (digit label j)) → Is (agrees P (learnt P r.scenario s) label)
  unfolding agrees
  true_agrees s label digits =
      and_i (plain P.propositions label) _ (plain_of P.propositions label (λ j h. true_plain j (digit label j) (digits j h)))
      (every_of _ P.propositions (λ j h. digit_agrees (r.scenario j) (learnt P r.scenario s) j (digit label j) (digits j h) (learnt_either s j h)))

  -- and of one that does each digit is known, or of a proposition not learnt yet
  pub agrees_digits : (s : State) (label : ℕ) → Is (agrees P (learnt P r.scenario s) label) → (j : ℕ) → j < P.propositions → Agrees s j (digit label j)
  unfolding agrees
  agrees_digits s label t j h = go (done? s (P.observer j)) (or_of (eqb (digit label j) 0 || eqb (a j) 0) _ (every_at (λ j. agrees_at a j (digit label j)) P.propositions j (and_r (plain P.propositions label) _ t) h))
    where
      a : ℕ → ℕ
      a j = learnt P r.scenario s j

      early : Executed s (P.observer j) → Is (eqb (digit label j) 0) ⊎ Is (eqb (a j) 0) → Agrees s j (digit label j)
      early d (inl e) = inl (inl (eqb→eq _ _ e))
      early d (inr e) = let z : a j ≡ 0 = eqb→eq _ _ e in absurd (omega (arith, z, learnt_is s j h d, digit_plain (r.scenario j)))

      go : Dec (Executed s (P.observer j)) → Is (eqb (digit label j) 0 || eqb (a j) 0) ⊎ Is (eqb (digit label j) (a j)) → Agrees s j (digit label j)
      go (no n) e = inr n
      go (yes d) (inl e) = early d (or_of (eqb (digit label j) 0) _ e)
      go (yes d) (inr e) = inl (inr (d, eqb→eq _ _ e ∙ learnt_is s j h d))
