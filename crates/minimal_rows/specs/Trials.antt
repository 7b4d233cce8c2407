-- Trials of a plan with some of its rows, and the rows that break it (21).
use Rattle.std.specs.Prelude.{Bool, true, false, cond, List, ℕ, zero, suc, set, replicate}
use Rattle.plan.specs.Plan.{Plan}
use Rattle.plan_rows.specs.Rows.{with_rows, marked}
use Rattle.rounds_making.specs.Rounds.{zeros}
use Rattle.rounds_making.specs.Outcomes.{Outcome, kept, broken, spent, refused, run_outcome, run_table}
use Rattle.rounds.specs.Meaning.{enough_rounds}

-- 21.3: the plan that a trial of marks is of: just the rows with mark 1 remain
abbrev pub remaining : Plan → List ℕ → Plan
remaining P ms = with_rows P (marked ms)

-- 21.3: a trial: the rounds from zeros, as many as are enough for the whole plan; its outcome, and the table that it leaves
abbrev pub trial_outcome : Plan → List ℕ → Outcome
trial_outcome P ms = run_outcome (remaining P ms) (zeros P) (enough_rounds P)

abbrev pub trial_table : Plan → List ℕ → List ℕ
trial_table P ms = run_table (remaining P ms) (zeros P) (enough_rounds P)

abbrev pub is_kept : Outcome → Bool
is_kept (kept r) = true
is_kept (broken r) = false
is_kept (spent n) = false
is_kept (refused n) = false

abbrev pub is_broken : Outcome → Bool
is_broken (kept r) = false
is_broken (broken r) = true
is_broken (spent n) = false
is_broken (refused n) = false

-- 21.4: before any row is tried, each has mark 1
abbrev pub all_rows : Plan → List ℕ
all_rows P = replicate P.edges 1

-- 21.4: row i is tried: it is left out if the rest is still broken
unfoldable pub try_row : Plan → ℕ → List ℕ → List ℕ
try_row P i ms = let rest = set ms i 0 in cond (is_broken (trial_outcome P rest)) rest ms

-- 21.4: the marks once the first n rows have been tried, in their order
unfoldable pub tried_to : Plan → ℕ → List ℕ
tried_to P zero = all_rows P
tried_to P (suc n) = try_row P n (tried_to P n)

-- 21.4: once all have
abbrev pub breaking_marks : Plan → List ℕ
breaking_marks P = tried_to P P.edges

-- 21.8: no row remains: the links alone
abbrev pub no_rows : Plan → List ℕ
no_rows P = replicate P.edges 0
