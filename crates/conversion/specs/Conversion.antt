-- What the conversions answer, and what the lent output then holds (22.9, 22.10).
use Rattle.std.specs.Prelude.{Bool, cond, not, List, ◌++◌, ℕ, Result, Ok, Err, ltb, eqb, length, drop}
use Rattle.plan.specs.Plan.{Plan}
use Rattle.plan.specs.Layout.{plan_of, length_for, labelled_length_for}
use Rattle.plan.specs.Forms.{with_labels, without_labels}
use Rattle.plan.specs.Numbers.{number_of}
use Rattle.plan.specs.Refusal.{every, refusal}
use Rattle.plan.specs.declared.refusal.Refusal.{Refusal}

-- 22.9: the length of the plan in the other form, or the number of a refusal
pub data ConversionOutcome : Type 0 where
  converted : ℕ → ConversionOutcome
  refused : ℕ → ConversionOutcome

-- 22.9: the outcome that the code's answer stands for
abbrev pub outcome_of : Result ℕ Refusal → ConversionOutcome
outcome_of (Ok n) = converted n
outcome_of (Err refusal) = refused (number_of refusal)

-- 22.9: the refusal of a plan, whose length has to be that of the form that a conversion starts from: judged after 2, and before all else
unfoldable pub start_refusal : List ℕ → ℕ → ℕ
start_refusal bs start = cond (eqb (refusal bs) 2) 2 (cond (not (eqb (length bs) start)) 1 (refusal bs))

-- 22.9: every label of a point is 0
unfoldable pub unlabelled : Plan → Bool
unlabelled P = every (λ x. eqb (P.point_label x) 0) P.points

-- 22.9: the number of the first refusal that applies, 0 where none does: to the form with labels, with a lent output O
unfoldable pub with_refusal : List ℕ → List ℕ → ℕ
with_refusal bs O =
    let P = plan_of bs in
    let n = start_refusal bs (length_for P) in
    cond (not (eqb n 0)) n (cond (ltb (length O) (labelled_length_for P)) 7 0)

-- 22.9: and to the form without
unfoldable pub without_refusal : List ℕ → List ℕ → ℕ
without_refusal bs O =
    let P = plan_of bs in
    let n = start_refusal bs (labelled_length_for P) in
    cond (not (eqb n 0)) n
    (cond (not (unlabelled P)) 19
    (cond (ltb (length O) (length_for P)) 7 0))

-- 22.9: the answers
unfoldable pub with_outcome : List ℕ → List ℕ → ConversionOutcome
with_outcome bs O = let n = with_refusal bs O in cond (eqb n 0) (converted (length (with_labels bs))) (refused n)

unfoldable pub without_outcome : List ℕ → List ℕ → ConversionOutcome
without_outcome bs O = let n = without_refusal bs O in cond (eqb n 0) (converted (length (without_labels bs))) (refused n)

-- 22.10: the output then: the plan in the other form and later bytes as they were, and untouched where refused
unfoldable pub with_output : List ℕ → List ℕ → List ℕ
with_output bs O = let new = with_labels bs in cond (eqb (with_refusal bs O) 0) (new ++ drop (length new) O) O

unfoldable pub without_output : List ℕ → List ℕ → List ℕ
without_output bs O = let new = without_labels bs in cond (eqb (without_refusal bs O) 0) (new ++ drop (length new) O) O
