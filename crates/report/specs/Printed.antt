-- What the program prints for its input, and what its tables then hold (13).
use Rattle.std.specs.Prelude.{cond, List, ◌++◌, ℕ, ltb, length, take, drop}
use Rattle.plan.specs.Layout.{plan_of, most_bytes}
use Rattle.rounds_making.specs.Outcomes.{Outcome, refused}
use Rattle.rounds.specs.CheckOutcomes.{check_outcome, check_table}
use Rattle.rounds.specs.Meaning.{serving_limit}
use Rattle.report.specs.Text.{text_of}

-- 13.1, 13.2: over 832 bytes refusal 1, before any other; else what the check answers
unfoldable pub program_outcome : List ℕ → List ℕ → List ℕ → Outcome
program_outcome bs F G = cond (ltb most_bytes (length bs)) (refused 1) (check_outcome bs F G serving_limit)

-- 13.2: what a lent table L then holds: untouched where the bytes are too many, else as the check leaves it
unfoldable pub program_table : List ℕ → List ℕ → List ℕ → List ℕ → List ℕ
program_table bs F G L = cond (ltb most_bytes (length bs)) L (check_table bs F G serving_limit L)

-- 13.3: the text for the bytes of the input and two lent tables
unfoldable pub printed : List ℕ → List ℕ → List ℕ → List ℕ
printed bs F G = text_of (program_outcome bs F G) (plan_of bs) (program_table bs F G F)

-- 13.3: the output afterwards: as much of the text as fits, and behind it what was there
unfoldable pub overlaid : List ℕ → List ℕ → List ℕ
overlaid text out = take (length out) text ++ drop (length text) out
