-- What rounds up to a limit end with: an answer, and the table of the last round (9).
use Rattle.std.specs.Prelude.{Bool, true, false, List, ℕ, Result, Ok, Err}
use Rattle.std.proofs.Math.Option.{Option, none, some}
use Rattle.plan.specs.Numbers.{number_of}
use Rattle.plan.specs.Plan.{Plan}
use Rattle.plan.specs.declared.refusal.Refusal.{Refusal}
use Rattle.rounds_making.specs.declared.Answer.{Answer}
use Rattle.rounds_making.specs.declared.Answer.TheVariants.{Kept, Broken, Spent}
use Rattle.rounds_making.specs.Rounds.{table_from, first_alarm_waits, rounds_to}

-- 9.2, 9.5: kept or broken with R, spent with the limit, or the number of a refusal
pub data Outcome : Type 0 where
  kept : ℕ → Outcome
  broken : ℕ → Outcome
  spent : ℕ → Outcome
  refused : ℕ → Outcome

-- 9.2, 9.5: the outcome that the code's answer stands for
abbrev pub outcome_of : Answer → Outcome
outcome_of (Kept r) = kept r
outcome_of (Broken r) = broken r
outcome_of (Spent r) = spent r

-- and where it can be refused
abbrev pub outcome_of_check : Result Answer Refusal → Outcome
outcome_of_check (Ok answer) = outcome_of answer
outcome_of_check (Err refusal) = refused (number_of refusal)

abbrev pub pick : Bool → Outcome → Outcome → Outcome
pick true a b = a
pick false a b = b

-- 9.2: by R, where it is at most the limit: broken if Z has a cell above 0, else kept; spent where no round up to the limit is R
abbrev pub ended : Plan → List ℕ → ℕ → Option ℕ → Outcome
ended P T limit none = spent limit
ended P T limit (some r) = pick (first_alarm_waits P (table_from P T r)) (broken r) (kept r)

-- 9.3: the table of that round
abbrev pub end_table : Plan → List ℕ → ℕ → Option ℕ → List ℕ
end_table P T limit none = table_from P T limit
end_table P T limit (some r) = table_from P T r

-- 8.4: rounds from any table
abbrev pub run_outcome : Plan → List ℕ → ℕ → Outcome
run_outcome P T limit = ended P T limit (rounds_to P T limit)

abbrev pub run_table : Plan → List ℕ → ℕ → List ℕ
run_table P T limit = end_table P T limit (rounds_to P T limit)
