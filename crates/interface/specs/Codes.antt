-- What a C caller sees of an answer (14.2, 14.3): a code, and numbers in a lent slice. A slice that lacks an entry keeps what it has (`set` past the end).
use Rattle.std.specs.Prelude.{List, ℕ, Result, Ok, Err, ◌+◌, set}
use Rattle.plan.specs.Numbers.{number_of}
use Rattle.plan.specs.declared.refusal.Refusal.{Refusal}
use Rattle.rounds_making.specs.Outcomes.{Outcome, kept, broken, spent, refused}
use Rattle.page.specs.Page as page
use Rattle.minimal_rows.specs.BreakingRows as breaking
use Rattle.conversion.specs.Conversion as conversion

-- 14.2: the code of an answer
abbrev pub code_of : Outcome → ℕ
code_of (kept r) = 0
code_of (broken r) = 1
code_of (spent r) = 2
code_of (refused n) = 100 + n

-- 14.3: the check's numbers: the rounds in entry 0; untouched where refused
abbrev pub count_into : Outcome → List ℕ → List ℕ
count_into (kept r) ns = set ns 0 r
count_into (broken r) ns = set ns 0 r
count_into (spent r) ns = set ns 0 r
count_into (refused n) ns = ns

-- 14.3: where broken, the listing's length in bytes in entry 1
abbrev pub length_into : Outcome → ℕ → List ℕ → List ℕ
length_into (kept r) bytes ns = ns
length_into (broken r) bytes ns = set ns 1 bytes
length_into (spent r) bytes ns = ns
length_into (refused n) bytes ns = ns

-- 14.3: the listing's numbers
abbrev pub numbers_into : Outcome → ℕ → List ℕ → List ℕ
numbers_into o bytes ns = length_into o bytes (count_into o ns)

-- 14.2: the code of a page's answer
abbrev pub page_code : page.PageOutcome → ℕ
page_code (page.printed n) = 0
page_code (page.refused n) = 100 + n

-- 14.3: a page's numbers: its length in bytes in entry 0; untouched where refused
abbrev pub page_numbers : page.PageOutcome → List ℕ → List ℕ
page_numbers (page.printed n) ns = set ns 0 n
page_numbers (page.refused n) ns = ns

-- 14.2: the code of what the rows that break a plan are answered with
abbrev pub rows_code : breaking.RowsOutcome → ℕ
rows_code (breaking.rows n) = 0
rows_code (breaking.refused n) = 100 + n

-- 14.3: its numbers: how many rows remain in entry 0; untouched where refused
abbrev pub rows_numbers : breaking.RowsOutcome → List ℕ → List ℕ
rows_numbers (breaking.rows n) ns = set ns 0 n
rows_numbers (breaking.refused n) ns = ns

-- 14.2: the code of a conversion's answer
abbrev pub conversion_code : conversion.ConversionOutcome → ℕ
conversion_code (conversion.converted n) = 0
conversion_code (conversion.refused n) = 100 + n

-- 14.3: its numbers: the length of the plan in the other form in entry 0; untouched where refused
abbrev pub conversion_numbers : conversion.ConversionOutcome → List ℕ → List ℕ
conversion_numbers (conversion.converted n) ns = set ns 0 n
conversion_numbers (conversion.refused n) ns = ns

-- For inner contracts only: the code and the numbers of such a call by what it answers in the code. `CodeLaws` says that these are the three above.
abbrev pub result_code : Result ℕ Refusal → ℕ
result_code (Ok n) = 0
result_code (Err refusal) = 100 + number_of refusal

abbrev pub result_numbers : Result ℕ Refusal → List ℕ → List ℕ
result_numbers (Ok n) ns = set ns 0 n
result_numbers (Err refusal) ns = ns
