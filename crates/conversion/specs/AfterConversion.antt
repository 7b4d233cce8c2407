-- All that the conversions promise (22.9 to 22.11).
use Rattle.std.specs.Prelude.{◌≡◌, List, ◌++◌, ℕ, ◌≤◌, length, drop}
use Rattle.plan.specs.Moments.{Moments}
use Rattle.plan.specs.Forms.{with_labels, without_labels}
use Rattle.conversion.specs.Conversion.{ConversionOutcome, converted, refused, with_outcome, without_outcome, with_output, without_output}

abbrev pub IsConverted : ConversionOutcome → Type 0
IsConverted (converted n) = Unit {0}
IsConverted (refused n) = ⊥

-- 22.11: there and back: the other conversion, with an output O that is long enough, takes the new bytes and writes the plan's own
pub record BackWithout (plan O : List ℕ) : Type 0 where
  pub outcome_back : without_outcome (with_labels plan) O ≡ converted (length plan)
  pub output_back : without_output (with_labels plan) O ≡ plan ++ drop (length plan) O

pub record BackWith (plan O : List ℕ) : Type 0 where
  pub outcome_back : with_outcome (without_labels plan) O ≡ converted (length plan)
  pub output_back : with_output (without_labels plan) O ≡ plan ++ drop (length plan) O

-- the conversion to the form with labels, with a lent output, answered o
pub record AfterWithLabels (plan : List ℕ) (out : Moments) (o : ConversionOutcome) : Type 0 where
  pub outcome_is : o ≡ with_outcome plan out.entry
  pub output_is : out.exit ≡ with_output plan out.entry
  pub there_and_back : IsConverted o → (O : List ℕ) → length plan ≤ length O → BackWithout plan O

-- the conversion to the form without labels, with a lent output, answered o
pub record AfterWithoutLabels (plan : List ℕ) (out : Moments) (o : ConversionOutcome) : Type 0 where
  pub outcome_is : o ≡ without_outcome plan out.entry
  pub output_is : out.exit ≡ without_output plan out.entry
  pub there_and_back : IsConverted o → (O : List ℕ) → length plan ≤ length O → BackWith plan O
