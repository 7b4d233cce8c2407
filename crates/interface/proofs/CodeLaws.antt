-- The code and the numbers of a call that answers a number or a refusal, call by call.
use mathlib.Core.Path.{◌≡◌, refl}
use mathlib.Core.List.{List}
use Prim.Native.Nat.{ℕ}
use Rattle.std.specs.Prelude.{Result, Ok, Err}
use Rattle.plan.specs.declared.refusal.Refusal.{Refusal}
use Rattle.page.specs.Page as page
use Rattle.minimal_rows.specs.BreakingRows as breaking
use Rattle.conversion.specs.Conversion as conversion
use Rattle.interface.specs.Codes.{result_code, result_numbers, page_code, page_numbers, rows_code, rows_numbers, conversion_code, conversion_numbers}

pub code_of_page : (r : Result ℕ Refusal) → result_code r ≡ page_code (page.outcome_of r)
code_of_page (Ok n) = refl
code_of_page (Err e) = refl

pub numbers_of_page : (r : Result ℕ Refusal) (ns : List ℕ) → result_numbers r ns ≡ page_numbers (page.outcome_of r) ns
numbers_of_page (Ok n) ns = refl
numbers_of_page (Err e) ns = refl

pub code_of_rows : (r : Result ℕ Refusal) → result_code r ≡ rows_code (breaking.outcome_of r)
code_of_rows (Ok n) = refl
code_of_rows (Err e) = refl

pub numbers_of_rows : (r : Result ℕ Refusal) (ns : List ℕ) → result_numbers r ns ≡ rows_numbers (breaking.outcome_of r) ns
numbers_of_rows (Ok n) ns = refl
numbers_of_rows (Err e) ns = refl

pub code_of_conversion : (r : Result ℕ Refusal) → result_code r ≡ conversion_code (conversion.outcome_of r)
code_of_conversion (Ok n) = refl
code_of_conversion (Err e) = refl

pub numbers_of_conversion : (r : Result ℕ Refusal) (ns : List ℕ) → result_numbers r ns ≡ conversion_numbers (conversion.outcome_of r) ns
numbers_of_conversion (Ok n) ns = refl
numbers_of_conversion (Err e) ns = refl
