-- For inner contracts only: what the functions that make trials leave in what they are lent. Nothing here is to be believed.
use Rattle.std.specs.Prelude.{◌≡◌, Bool, true, false, cond, List, ◌++◌, ℕ, zero, suc, ◌+◌, eqb, length, take, drop, set}
use Rattle.plan.specs.Moments.{Moments}
use Rattle.plan.specs.Plan.{Plan, cells}
use Rattle.plan.specs.Layout.{plan_of}
use Rattle.plan_rows.specs.Rows.{with_rows, marked}
use Rattle.rounds_making.specs.Rounds.{zeros}
use Rattle.rounds_making.specs.Outcomes.{run_outcome, run_table}
use Rattle.rounds.specs.Meaning.{enough_rounds}
use Rattle.minimal_rows.specs.declared.trials.Trial.{Trial}
use Rattle.minimal_rows.specs.declared.trials.Trials.{Trials}
use Rattle.minimal_rows.specs.Trials.{trial_table, is_broken, breaking_marks}

-- a trial of a list of rows was made, and left its table in the cells of both tables
pub record RowsTried (P : Plan) (rows : List ℕ) (first second : Moments) (b : Bool) : Type 0 where
  pub broken_is : b ≡ is_broken (run_outcome (with_rows P rows) (zeros P) (enough_rounds P))
  pub first_is : first.exit ≡ run_table (with_rows P rows) (zeros P) (enough_rounds P) ++ drop (cells P) first.entry
  pub second_is : second.exit ≡ run_table (with_rows P rows) (zeros P) (enough_rounds P) ++ drop (cells P) second.entry
  pub first_length : length first.exit ≡ length first.entry
  pub second_length : length second.exit ≡ length second.entry

-- the same of the rows with mark 1, and how many they are
pub record Tried (P : Plan) (marks : List ℕ) (first second : Moments) (t : Trial) : Type 0 where
  pub tried : RowsTried P (marked (take P.edges marks)) first second t.broken
  pub rows_are : t.rows ≡ length (marked (take P.edges marks))

-- only cells of the plan may have changed in a table
pub record TailKept (P : Plan) (table : Moments) : Type 0 where
  pub tail : drop (cells P) table.exit ≡ drop (cells P) table.entry
  pub as_long : length table.exit ≡ length table.entry

-- the marks became those of a list with an entry for each edge, and nothing past them changed
pub record MarksAre (P : Plan) (ms : List ℕ) (first second marks : Moments) : Type 0 where
  pub marks_are : marks.exit ≡ ms ++ drop P.edges marks.entry
  pub marks_length : length marks.exit ≡ length marks.entry
  pub first_tail : TailKept P first
  pub second_tail : TailKept P second

-- the plan whose rows are tried
abbrev pub plan_in : Trials → Plan
plan_in t = plan_of t.plan.now

-- the rows that break the plan are marked, r of them, and both tables hold the table of their trial
pub record RowsLeft (P : Plan) (first second marks : Moments) (r : ℕ) : Type 0 where
  pub rows_are : r ≡ length (marked (breaking_marks P))
  pub marks_are : marks.exit ≡ breaking_marks P ++ drop P.edges marks.entry
  pub first_is : first.exit ≡ trial_table P (breaking_marks P) ++ drop (cells P) first.entry
  pub second_is : second.exit ≡ trial_table P (breaking_marks P) ++ drop (cells P) second.entry
  pub first_length : length first.exit ≡ length first.entry
  pub second_length : length second.exit ≡ length second.entry
  pub marks_length : length marks.exit ≡ length marks.entry

-- ---- rows tried together
-- the marks of n rows from row i on
unfoldable pub set_run : ℕ → ℕ → ℕ → List ℕ → List ℕ
set_run m i zero ms = ms
set_run m i (suc n) ms = set (set_run m i n ms) (i + n) m

-- how many rows have been tried once n rows from row i on were left out together, or stay: a single row that stays was tried
abbrev pub reached : ℕ → ℕ → Bool → ℕ
reached i n true = i + n
reached i n false = cond (eqb n 1) (i + 1) i
