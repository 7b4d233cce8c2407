-- What the conversions answer, test after test, and that one takes back what the other wrote.
use mathlib.Core.Path.{◌≡◌, sym, ap, ap₂, ◌∙◌}
use mathlib.Core.Bool.{true, false}
use mathlib.Core.List.{List, ◌++◌}
use Prim.Native.Nat.{ℕ, ◌+◌, ◌≤◌, ◌<◌}
use native.Mathlib.Decide.{ℕ_discrete}
use native.Mathlib.Omega.{arith}
use lib.ListN.{length, drop}
use lib.Dec.{eqb}
use borrow.Author.Rules.{rules}
use borrow.Author.Tests.{lt-ltb, le-ltb, eq-eqb, ne_eqb}
use Rattle.plan.specs.Layout.{plan_of, length_for, labelled_length_for}
use Rattle.plan.specs.Forms.{with_labels, without_labels}
use Rattle.plan.specs.Numbers.{number_of}
use Rattle.plan.specs.Refusal.{refusal, Accepted}
use Rattle.plan.specs.declared.refusal.Refusal.{Refusal}
use Rattle.plan.specs.declared.refusal.Refusal.TheVariants.{ShortOutput, Labelled}
use Rattle.plan.proofs.SameRows.{length_for_is, labelled_length_for_is}
use Rattle.plan.proofs.Forms.{labels_there, labels_absent, with_same, with_none, with_length, with_accepted, without_same, without_length, without_accepted, without_with, with_without}
use Rattle.conversion.specs.Conversion.{start_refusal, unlabelled, with_refusal, without_refusal, converted, refused, with_outcome, without_outcome, with_output, without_output}
use Rattle.conversion.specs.AfterConversion.{BackWithout, BackWith, AfterWithLabels, AfterWithoutLabels}
use Rattle.conversion.proofs.Written.{zeroed, zeroed_with, zeroed_without}
use Rattle.conversion.proofs.Zeros.{unlabelled_of, unlabelled_at}

-- ---- the refusal of a plan that has to have the length of one form
module _ (bs : List ℕ) (end : ℕ) where
  pub start_sizes : refusal bs ≡ 2 → start_refusal bs end ≡ 2
  unfolding start_refusal
  start_sizes e = rw (eq-eqb (refusal bs) 2 e)

  module _ (sizes : refusal bs ≡ 2 → ⊥) where
    pub start_length : (length bs ≡ end → ⊥) → start_refusal bs end ≡ 1
    unfolding start_refusal
    start_length n = rw (ne_eqb (refusal bs) 2 sizes, ne_eqb (length bs) end n)

    pub start_other : length bs ≡ end → start_refusal bs end ≡ refusal bs
    unfolding start_refusal
    start_other e = rw (ne_eqb (refusal bs) 2 sizes, eq-eqb (length bs) end e)

  start_none : Accepted bs → length bs ≡ end → start_refusal bs end ≡ 0
  start_none a e = start_other (λ s. omega arith) e ∙ a

  -- the converse
  pub started : start_refusal bs end ≡ 0 → Accepted bs × (length bs ≡ end)
  started z = go (ℕ_discrete (refusal bs) 2) (ℕ_discrete (length bs) end)
    where
      go : Dec (refusal bs ≡ 2) → Dec (length bs ≡ end) → Accepted bs × (length bs ≡ end)
      go (yes s) d = absurd (omega (arith, start_sizes s))
      go (no s) (no n) = absurd (omega (arith, start_length s n))
      go (no s) (yes e) = (sym (start_other s e) ∙ z, e)

-- ---- the answer and the output, by the refusal
-- no refusal has the number 0
some_number : (r : Refusal) → eqb (number_of r) 0 ≡ false
some_number r = search rules

-- refused with n, and the output as it was
abbrev WithRefused : List ℕ → List ℕ → ℕ → Type 0
WithRefused bs O n = AfterWithLabels bs (record { entry = O; exit = O }) (refused n)

abbrev WithoutRefused : List ℕ → List ℕ → ℕ → Type 0
WithoutRefused bs O n = AfterWithoutLabels bs (record { entry = O; exit = O }) (refused n)

module _ (bs O : List ℕ) where
  module _ (none : with_refusal bs O ≡ 0) where
    with_converts : with_outcome bs O ≡ converted (length (with_labels bs))
    unfolding with_outcome
    with_converts = rw (eq-eqb (with_refusal bs O) 0 none)

    with_writes : with_output bs O ≡ with_labels bs ++ drop (length (with_labels bs)) O
    unfolding with_output
    with_writes = rw (eq-eqb (with_refusal bs O) 0 none)

  module _ (none : without_refusal bs O ≡ 0) where
    without_converts : without_outcome bs O ≡ converted (length (without_labels bs))
    unfolding without_outcome
    without_converts = rw (eq-eqb (without_refusal bs O) 0 none)

    without_writes : without_output bs O ≡ without_labels bs ++ drop (length (without_labels bs)) O
    unfolding without_output
    without_writes = rw (eq-eqb (without_refusal bs O) 0 none)

  module _ (r : Refusal) where
    with_refused : with_refusal bs O ≡ number_of r → WithRefused bs O (number_of r)
    unfolding with_outcome with_output
    with_refused e = record { outcome_is = rw (e, some_number r); output_is = rw (e, some_number r); there_and_back = λ c. absurd c }

    without_refused : without_refusal bs O ≡ number_of r → WithoutRefused bs O (number_of r)
    unfolding without_outcome without_output
    without_refused e = record { outcome_is = rw (e, some_number r); output_is = rw (e, some_number r); there_and_back = λ c. absurd c }

    -- refused by the plan's own bytes
    pub with_by_plan : number_of r ≡ start_refusal bs (length_for (plan_of bs)) → WithRefused bs O (number_of r)
    unfolding with_refusal
    with_by_plan e = with_refused (rw (← e, some_number r))

    pub without_by_plan : number_of r ≡ start_refusal bs (labelled_length_for (plan_of bs)) → WithoutRefused bs O (number_of r)
    unfolding without_refusal
    without_by_plan e = without_refused (rw (← e, some_number r))

  -- ---- to the form with labels
  module _ (start : start_refusal bs (length_for (plan_of bs)) ≡ 0) where
    pub with_by_room : length O < labelled_length_for (plan_of bs) → WithRefused bs O 7
    unfolding with_refusal
    with_by_room h = with_refused ShortOutput (rw (start, lt-ltb (length O) (labelled_length_for (plan_of bs)) h))

    with_none_refused : labelled_length_for (plan_of bs) ≤ length O → with_refusal bs O ≡ 0
    unfolding with_refusal
    with_none_refused h = rw (start, le-ltb (length O) (labelled_length_for (plan_of bs)) h)

  -- ---- to the form without
  module _ (start : start_refusal bs (labelled_length_for (plan_of bs)) ≡ 0) where
    pub without_by_label : unlabelled (plan_of bs) ≡ false → WithoutRefused bs O 19
    unfolding without_refusal
    without_by_label e = without_refused Labelled (rw (start, e))

    module _ (zeros : unlabelled (plan_of bs) ≡ true) where
      pub without_by_room : length O < length_for (plan_of bs) → WithoutRefused bs O 7
      unfolding without_refusal
      without_by_room h = without_refused ShortOutput (rw (start, zeros, lt-ltb (length O) (length_for (plan_of bs)) h))

      without_none_refused : length_for (plan_of bs) ≤ length O → without_refusal bs O ≡ 0
      unfolding without_refusal
      without_none_refused h = rw (start, zeros, le-ltb (length O) (length_for (plan_of bs)) h)

-- ---- there and back
module _ (bs : List ℕ) where
  back_without : start_refusal bs (length_for (plan_of bs)) ≡ 0 → (O : List ℕ) → length bs ≤ length O → BackWithout bs O
  back_without start O h =
      let s = started bs (length_for (plan_of bs)) start in
      let cs = with_labels bs in
      let e : without_labels cs ≡ bs = without_with bs s.0 (labels_absent bs s.1) in
      let same = with_same bs s.0 in
      let long : length cs ≡ labelled_length_for (plan_of cs) = with_length bs s.0 ∙ sym (labelled_length_for_is same) in
      let room : length_for (plan_of cs) ≤ length O = rw (length_for_is same, ← s.1) h in
      let none = without_none_refused cs O (start_none cs _ (with_accepted bs s.0) long) (unlabelled_of (plan_of cs) (with_none bs s.0)) room in
      record { outcome_back = without_converts cs O none ∙ ap (λ (l : List ℕ). converted (length l)) e; output_back = without_writes cs O none ∙ ap (λ (l : List ℕ). l ++ drop (length l) O) e }

  back_with : start_refusal bs (labelled_length_for (plan_of bs)) ≡ 0 → unlabelled (plan_of bs) ≡ true → (O : List ℕ) → length bs ≤ length O → BackWith bs O
  back_with start zeros O h =
      let s = started bs (labelled_length_for (plan_of bs)) start in
      let cs = without_labels bs in
      let e : with_labels cs ≡ bs = with_without bs s.0 (labels_there bs s.1) (unlabelled_at (plan_of bs) zeros) in
      let same = without_same bs s.0 in
      let long : length cs ≡ length_for (plan_of cs) = without_length bs s.0 ∙ sym (length_for_is same) in
      let room : labelled_length_for (plan_of cs) ≤ length O = rw (labelled_length_for_is same, ← s.1) h in
      let none = with_none_refused cs O (start_none cs _ (without_accepted bs s.0) long) room in
      record { outcome_back = with_converts cs O none ∙ ap (λ (l : List ℕ). converted (length l)) e; output_back = with_writes cs O none ∙ ap (λ (l : List ℕ). l ++ drop (length l) O) e }

-- ---- converted: what was written has so many labels
module _ (bs O : List ℕ) (labels r : ℕ) {after : List ℕ} (length_is : r ≡ length_for (plan_of bs) + labels) (after_is : after ≡ zeroed bs labels ++ drop r O) where
  pub with_converted : start_refusal bs (length_for (plan_of bs)) ≡ 0 → labelled_length_for (plan_of bs) ≤ length O → labels ≡ (plan_of bs).points → AfterWithLabels bs (record { entry = O; exit = after }) (converted r)
  unfolding labelled_length_for
  with_converted start room e =
      let n = with_none_refused bs O start room in
      let l : r ≡ length (with_labels bs) = omega (arith, with_length bs (started bs _ start).0) in
      let new : zeroed bs labels ≡ with_labels bs = zeroed_with bs labels e in
      record { outcome_is = ap converted l ∙ sym (with_converts bs O n); output_is = after_is ∙ ap₂ (λ (a : List ℕ) (k : ℕ). a ++ drop k O) new l ∙ sym (with_writes bs O n); there_and_back = λ c. back_without bs start }

  pub without_converted : start_refusal bs (labelled_length_for (plan_of bs)) ≡ 0 → unlabelled (plan_of bs) ≡ true → length_for (plan_of bs) ≤ length O → labels ≡ 0 → AfterWithoutLabels bs (record { entry = O; exit = after }) (converted r)
  without_converted start zeros room e =
      let n = without_none_refused bs O start zeros room in
      let l : r ≡ length (without_labels bs) = omega (arith, without_length bs (started bs _ start).0) in
      let new : zeroed bs labels ≡ without_labels bs = zeroed_without bs labels e in
      record { outcome_is = ap converted l ∙ sym (without_converts bs O n); output_is = after_is ∙ ap₂ (λ (a : List ℕ) (k : ℕ). a ++ drop k O) new l ∙ sym (without_writes bs O n); there_and_back = λ c. back_with bs start zeros }
