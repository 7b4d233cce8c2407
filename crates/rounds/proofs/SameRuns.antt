-- Two plans that have each other's rows have the same rounds from any table.
use mathlib.Core.Path.{◌≡◌, refl, ap, ◌∙◌}
use mathlib.Core.List.{List}
use mathlib.Core.Option.{Option, none, some}
use Prim.Native.Nat.{ℕ, zero, suc, ◌-◌}
use lib.ListN.{length}
use Rattle.plan.specs.Plan.{Plan, cells}
use Rattle.plan.proofs.Ranges.{WellFormed}
use Rattle.plan.proofs.Fewer.{FewerRows}
use Rattle.rules.specs.Tables.{next}
use Rattle.rules.proofs.Fewer.{fewer_width, same_next}
use Rattle.rounds_making.specs.Rounds.{table_from, first_alarm_waits, stops_at, first_stop, rounds_to}
use Rattle.rounds_making.specs.Outcomes.{ended, end_table, run_outcome, run_table}
use Rattle.rounds_making.proofs.TableLengths.{from_length}

module _ {Q P : Plan} (f : FewerRows Q P) (g : FewerRows P Q) (wq : WellFormed Q) (wp : WellFormed P) (T : List ℕ) (sized : length T ≡ cells P) where
  pub same_table : (r : ℕ) → table_from Q T r ≡ table_from P T r
  same_table zero = refl
  same_table (suc r) = ap (next Q) (same_table r) ∙ same_next f g wq wp (table_from P T r) (from_length P wp T sized r)

  -- both tests of a round look only at tables, and at how many cells a point has
  same_first : (r : ℕ) → first_alarm_waits Q (table_from Q T r) ≡ first_alarm_waits P (table_from P T r)
  same_first r = rw (fewer_width f, same_table r)

  same_stop : (r : ℕ) → stops_at Q T r ≡ stops_at P T r
  same_stop r = rw (same_first r, same_table (r - 1), same_table r)

  -- so the first round that stops is the same
  same_rounds : (n r : ℕ) → first_stop Q T r n ≡ first_stop P T r n
  same_rounds zero r = refl
  same_rounds (suc n) r = rw (same_stop r, same_rounds n (suc r))

  pub same_outcome : (limit : ℕ) → run_outcome Q T limit ≡ run_outcome P T limit
  same_outcome limit = ap (ended Q T limit) (same_rounds limit 1) ∙ go (rounds_to P T limit)
    where
      go : (o : Option ℕ) → ended Q T limit o ≡ ended P T limit o
      go none = refl
      go (some r) = rw (same_first r)

  pub same_run : (limit : ℕ) → run_table Q T limit ≡ run_table P T limit
  same_run limit = ap (end_table Q T limit) (same_rounds limit 1) ∙ go (rounds_to P T limit)
    where
      go : (o : Option ℕ) → end_table Q T limit o ≡ end_table P T limit o
      go none = same_table limit
      go (some r) = same_table r
