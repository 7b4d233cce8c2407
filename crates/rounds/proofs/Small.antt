-- The waits of every table that the check makes are small.
use mathlib.Core.Path.{◌≡◌, refl}
use mathlib.Core.Option.{Option, none, some}
use Prim.Native.Nat.{ℕ, suc, ◌+◌, ◌≤◌, ◌<◌}
use native.Mathlib.Omega.{arith}
use lib.ListN.{get_or}
use Rattle.plan.specs.Plan.{Plan, cells}
use Rattle.plan.proofs.Ranges.{WellFormed}
use Rattle.rules.proofs.Growth.{next_more}
use Rattle.rounds_making.specs.Rounds.{table_from, zeros, rounds_to}
use Rattle.rounds_making.specs.Outcomes.{end_table, run_table}
use Rattle.rounds_making.proofs.Stopping.{Running, some_stops, none_runs}
use Rattle.rounds_making.proofs.TableLengths.{table_length}
use Rattle.rounds.proofs.Verdict.{inv_table}

module _ (P : Plan) (wf : WellFormed P) where
  -- a table that does not stop
  pub table_high : (r : ℕ) → Running P (zeros P) r → (c : ℕ) → c < cells P → get_or (table_from P (zeros P) r) c 0 ≤ P.horizon + P.largest
  table_high r g = (inv_table P wf r g).high

  -- the table after it
  pub table_small : (r : ℕ) → Running P (zeros P) r → (c : ℕ) → c < cells P → get_or (table_from P (zeros P) (suc r)) c 0 ≤ P.horizon + P.largest + P.largest
  table_small r g c k = next_more P wf (table_from P (zeros P) r) (table_length P wf r) (P.horizon + P.largest) (table_high r g) c k

  -- the table that the rounds leave
  pub run_small : (limit c : ℕ) → c < cells P → get_or (run_table P (zeros P) limit) c 0 ≤ P.horizon + P.largest + P.largest
  run_small limit c k = go (rounds_to P (zeros P) limit) refl
    where
      go : (o : Option ℕ) → rounds_to P (zeros P) limit ≡ o → get_or (end_table P (zeros P) limit o) c 0 ≤ P.horizon + P.largest + P.largest
      go none e = omega (arith, table_high limit (none_runs P (zeros P) limit e) c k)
      go (some r) e = let s = some_stops P (zeros P) limit r e in rw s.is_after (table_small s.before s.runs c k)
