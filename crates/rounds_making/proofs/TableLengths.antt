-- Rounds keep the length of a table.
use mathlib.Core.Path.{◌≡◌, ◌∙◌}
use mathlib.Core.List.{List}
use mathlib.Core.Option.{Option, none, some}
use Prim.Native.Nat.{ℕ, zero, suc}
use lib.ListN.{length, length-replicate}
use Rattle.plan.specs.Plan.{Plan, cells}
use Rattle.plan.proofs.Ranges.{WellFormed}
use Rattle.rules.proofs.Next.{next_is}
use Rattle.rounds_making.specs.Rounds.{table_from, zeros, rounds_to}
use Rattle.rounds_making.specs.Outcomes.{end_table, run_table}

module _ (P : Plan) (wf : WellFormed P) where
  -- rounds from any table keep its length
  pub from_length : (T : List ℕ) → length T ≡ cells P → (r : ℕ) → length (table_from P T r) ≡ cells P
  from_length T e zero = e
  from_length T e (suc r) = let k = from_length T e r in (next_is P wf (table_from P T r) k).as_long ∙ k

  pub run_length : (T : List ℕ) → length T ≡ cells P → (limit : ℕ) → length (run_table P T limit) ≡ cells P
  run_length T e limit = go (rounds_to P T limit)
    where
      go : (o : Option ℕ) → length (end_table P T limit o) ≡ cells P
      go none = from_length T e limit
      go (some r) = from_length T e r

  pub table_length : (r : ℕ) → length (table_from P (zeros P) r) ≡ cells P
  table_length r = from_length (zeros P) (length-replicate (cells P) 0) r
