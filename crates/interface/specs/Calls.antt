-- All that the C calls promise (14): what the call behind each promises, its answer as a code, and its numbers.
use Rattle.std.specs.Prelude.{◌≡◌, List, ℕ}
use Rattle.plan.specs.Moments.{Moments}
use Rattle.rounds_making.specs.Outcomes.{Outcome}
use Rattle.rounds.specs.AfterCheck.{AfterCheck}
use Rattle.classes.specs.Classes.{Devices}
use Rattle.classes.specs.AfterCheckClasses.{AfterCheckClasses}
use Rattle.listing.specs.AfterList.{AfterList}
use Rattle.page.specs.Page.{PageOutcome}
use Rattle.page.specs.AfterPage.{AfterPage}
use Rattle.minimal_rows.specs.BreakingRows.{RowsOutcome}
use Rattle.minimal_rows.specs.AfterBreakingRows.{AfterBreakingRows}
use Rattle.conversion.specs.Conversion.{ConversionOutcome}
use Rattle.conversion.specs.AfterConversion.{AfterWithLabels, AfterWithoutLabels}
use Rattle.interface.specs.Codes.{code_of, count_into, numbers_into, page_code, page_numbers, rows_code, rows_numbers, conversion_code, conversion_numbers}

-- sulgrach_check answered with this code
pub record AfterCheckCall (plan : List ℕ) (limit : ℕ) (first second rounds : Moments) (code : ℕ) : Type 0 where
  pub outcome : Outcome
  pub check : AfterCheck plan limit first second outcome
  pub code_is : code ≡ code_of outcome
  pub rounds_are : rounds.exit ≡ count_into outcome rounds.entry

-- sulgrach_check_classes answered with this code, by a table of classes
pub record AfterCheckClassesCall (D : Devices) (plan classes : List ℕ) (limit : ℕ) (first second rounds : Moments) (code : ℕ) : Type 0 where
  pub outcome : Outcome
  pub check : AfterCheckClasses D plan classes limit first second outcome
  pub code_is : code ≡ code_of outcome
  pub rounds_are : rounds.exit ≡ count_into outcome rounds.entry

-- sulgrach_list answered with this code
pub record AfterListCall (plan : List ℕ) (limit : ℕ) (first second index out numbers : Moments) (code : ℕ) : Type 0 where
  pub outcome : Outcome
  pub bytes : ℕ
  pub list : AfterList plan limit first second index out outcome bytes
  pub code_is : code ≡ code_of outcome
  pub numbers_are : numbers.exit ≡ numbers_into outcome bytes numbers.entry

-- sulgrach_page answered with this code
pub record AfterPageCall (plan table : List ℕ) (out numbers : Moments) (code : ℕ) : Type 0 where
  pub outcome : PageOutcome
  pub page : AfterPage plan table out outcome
  pub code_is : code ≡ page_code outcome
  pub numbers_are : numbers.exit ≡ page_numbers outcome numbers.entry

-- sulgrach_breaking_rows answered with this code
pub record AfterBreakingRowsCall (plan : List ℕ) (first second marks numbers : Moments) (code : ℕ) : Type 0 where
  pub outcome : RowsOutcome
  pub rows : AfterBreakingRows plan first second marks outcome
  pub code_is : code ≡ rows_code outcome
  pub numbers_are : numbers.exit ≡ rows_numbers outcome numbers.entry

-- sulgrach_with_labels answered with this code
pub record AfterWithLabelsCall (plan : List ℕ) (out numbers : Moments) (code : ℕ) : Type 0 where
  pub outcome : ConversionOutcome
  pub conversion : AfterWithLabels plan out outcome
  pub code_is : code ≡ conversion_code outcome
  pub numbers_are : numbers.exit ≡ conversion_numbers outcome numbers.entry

-- sulgrach_without_labels answered with this code
pub record AfterWithoutLabelsCall (plan : List ℕ) (out numbers : Moments) (code : ℕ) : Type 0 where
  pub outcome : ConversionOutcome
  pub conversion : AfterWithoutLabels plan out outcome
  pub code_is : code ≡ conversion_code outcome
  pub numbers_are : numbers.exit ≡ conversion_numbers outcome numbers.entry
