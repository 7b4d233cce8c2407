-- Rounds and R (8), from any starting table.
use Rattle.std.specs.Prelude.{Bool, cond, ◌||◌, List, ℕ, zero, suc, ◌-◌, replicate, take}
use Rattle.std.proofs.Math.Option.{Option, none, some}
use Rattle.plan.specs.Plan.{Plan, width, cells}
use Rattle.rules.specs.Tables.{next}
use Rattle.rounds_tables.specs.Cells.{same, any_above}

-- 8.2, 8.4: table(r) of the rounds that start from T
abbrev pub table_from : Plan → List ℕ → ℕ → List ℕ
table_from P T zero = T
table_from P T (suc r) = next P (table_from P T r)

-- 8.1: table(0) of the check
abbrev pub zeros : Plan → List ℕ
zeros P = replicate (cells P) 0

-- 8.3: Z has a cell above 0; the first cells of a table are Z's
abbrev pub first_alarm_waits : Plan → List ℕ → Bool
first_alarm_waits P T = any_above (take (width P) T)

-- 8.3: round r stops the rounds: Z waits, or the table stayed the same
abbrev pub stops_at : Plan → List ℕ → ℕ → Bool
stops_at P T r = first_alarm_waits P (table_from P T r) || same (table_from P T (r - 1)) (table_from P T r)

-- 8.3: the least of r, r + 1, .. that stops, among the first n of them
abbrev pub first_stop : Plan → List ℕ → ℕ → ℕ → Option ℕ
first_stop P T r zero = none
first_stop P T r (suc n) = let later = first_stop P T (suc r) n in cond (stops_at P T r) (some r) later

-- 8.3: R, the least r from 1 on that stops, if it is at most the limit
abbrev pub rounds_to : Plan → List ℕ → ℕ → Option ℕ
rounds_to P T limit = first_stop P T 1 limit
