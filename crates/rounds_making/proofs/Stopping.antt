-- R and the outcome with a limit, by how many rounds from any table do not stop: what a loop that makes the rounds one by one needs.
use mathlib.Core.Path.{◌≡◌, refl, ap, ◌∙◌, sym}
use mathlib.Core.Bool.{Bool, true, false, cond, ◌||◌, true≢false}
use mathlib.Core.Logic.{◌⊎◌, inl, inr}
use mathlib.Core.List.{List}
use mathlib.Core.Option.{Option, none, some}
use Prim.Native.Nat.{ℕ, zero, suc, ◌+◌, ◌-◌, ◌≤◌, ◌<◌}
use native.Mathlib.Decide.{ℕ_discrete}
use native.Mathlib.Omega.{arith}
use Rattle.plan.specs.Plan.{Plan}
use Rattle.rounds_tables.specs.Cells.{same}
use Rattle.rounds_making.specs.Rounds.{table_from, first_alarm_waits, stops_at, first_stop, rounds_to}
use Rattle.rounds_making.specs.Outcomes.{Outcome, kept, broken, spent, pick, ended, end_table, run_outcome, run_table}

or_false : (a b : Bool) → a || b ≡ false → (a ≡ false) × (b ≡ false)
or_false true b e = absurd (true≢false e)
or_false false b e = (refl, e)

-- ---- rounds that do not stop
-- no round from 1 to r stops
pub record Running (P : Plan) (T : List ℕ) (r : ℕ) : Type 0 where
  pub goes : (i : ℕ) → i < r → stops_at P T (suc i) ≡ false

-- r is the least round that stops, and is at most the limit
pub record Stops (P : Plan) (T : List ℕ) (limit r : ℕ) : Type 0 where
  pub before : ℕ
  pub is_after : r ≡ suc before
  pub within : before < limit
  pub runs : Running P T before
  pub here : stops_at P T (suc before) ≡ true

-- what rounds from T end with
pub record Ends (P : Plan) (T : List ℕ) (limit : ℕ) (o : Outcome) (A : List ℕ) : Type 0 where
  pub outcome_is : run_outcome P T limit ≡ o
  pub table_is : run_table P T limit ≡ A

module _ (P : Plan) (T : List ℕ) where
  pub running_none : Running P T 0
  running_none = record { goes = λ i h. absurd (omega arith) }

  pub running_more : (r : ℕ) → Running P T r → stops_at P T (suc r) ≡ false → Running P T (suc r)
  running_more r g e = record { goes = λ i h. go i h (ℕ_discrete i r) }
    where
      go : (i : ℕ) → i < suc r → Dec (i ≡ r) → stops_at P T (suc i) ≡ false
      go i h (yes q) = rw q e
      go i h (no q) = g.goes i (omega arith)

  pub running_less : (r s : ℕ) → r ≤ s → Running P T s → Running P T r
  running_less r s h g = record { goes = λ i k. g.goes i (omega arith) }

  -- the two tests of a round
  pub stops_by_lem : (r : ℕ) → stops_at P T (suc r) ≡ first_alarm_waits P (table_from P T (suc r)) || same (table_from P T r) (table_from P T (suc r))
  stops_by_lem r = let e : suc r - 1 ≡ r = omega arith in ap (λ (x : ℕ). first_alarm_waits P (table_from P T (suc r)) || same (table_from P T x) (table_from P T (suc r))) e

  pub no_stop : (r : ℕ) → first_alarm_waits P (table_from P T (suc r)) ≡ false → same (table_from P T r) (table_from P T (suc r)) ≡ false → stops_at P T (suc r) ≡ false
  no_stop r a b = stops_by_lem r ∙ rw (a, b) refl

  pub tests_fail : (r : ℕ) → stops_at P T (suc r) ≡ false → (first_alarm_waits P (table_from P T (suc r)) ≡ false) × (same (table_from P T r) (table_from P T (suc r)) ≡ false)
  tests_fail r e = or_false _ _ (sym (stops_by_lem r) ∙ e)

  pub one_holds : (r : ℕ) → stops_at P T (suc r) ≡ true → first_alarm_waits P (table_from P T (suc r)) ≡ false → same (table_from P T r) (table_from P T (suc r)) ≡ true
  one_holds r e a = rw a at (sym (stops_by_lem r) ∙ e)

  -- ---- R
  first_some : (n i r : ℕ) → i ≤ r → r < i + n → Running P T r → stops_at P T (suc r) ≡ true → first_stop P T (suc i) n ≡ some (suc r)
  first_some zero i r h k g e = absurd (omega arith)
  first_some (suc n) i r h k g e = go (first_some n (suc i) r) (ℕ_discrete i r)
    where
      go : (suc i ≤ r → r < suc i + n → Running P T r → stops_at P T (suc r) ≡ true → first_stop P T (suc (suc i)) n ≡ some (suc r)) → Dec (i ≡ r) → cond (stops_at P T (suc i)) (some (suc i)) (first_stop P T (suc (suc i)) n) ≡ some (suc r)
      go rec (yes q) = rw (q, e) refl
      go rec (no q) = rw (g.goes i (omega arith)) (rec (omega arith) (omega arith) g e)

  first_none : (n i : ℕ) → Running P T (i + n) → first_stop P T (suc i) n ≡ none
  first_none zero i g = refl
  first_none (suc n) i g = let e : i + suc n ≡ suc i + n = omega arith in rw (g.goes i (omega arith)) (first_none n (suc i) (rw e at g))

  pub rounds_some : (limit r : ℕ) → r < limit → Running P T r → stops_at P T (suc r) ≡ true → rounds_to P T limit ≡ some (suc r)
  rounds_some limit r h g e = first_some limit 0 r (omega arith) (omega arith) g e

  pub rounds_none : (limit : ℕ) → Running P T limit → rounds_to P T limit ≡ none
  rounds_none limit g = let e : limit ≡ 0 + limit = omega arith in first_none limit 0 (rw e at g)

  -- the least round that stops, or none up to the limit
  pub stops_or_runs : (limit : ℕ) → ((r : ℕ) × Stops P T limit r) ⊎ Running P T limit
  stops_or_runs zero = inr running_none
  stops_or_runs (suc n) = go (stops_or_runs n)
    where
      last : Running P T n → (b : Bool) → stops_at P T (suc n) ≡ b → ((r : ℕ) × Stops P T (suc n) r) ⊎ Running P T (suc n)
      last g true e = inl (suc n, record { before = n; is_after = refl; within = omega arith; runs = g; here = e })
      last g false e = inr (running_more n g e)

      go : ((r : ℕ) × Stops P T n r) ⊎ Running P T n → ((r : ℕ) × Stops P T (suc n) r) ⊎ Running P T (suc n)
      go (inl (r, s)) = inl (r, record { before = s.before; is_after = s.is_after; within = omega (arith, s.within); runs = s.runs; here = s.here })
      go (inr g) = last g (stops_at P T (suc n)) refl

  pub stops_some : (limit r : ℕ) → Stops P T limit r → rounds_to P T limit ≡ some r
  stops_some limit r s = rounds_some limit s.before s.within s.runs s.here ∙ ap some (sym s.is_after)

  -- and the other way round
  pub some_stops : (limit r : ℕ) → rounds_to P T limit ≡ some r → Stops P T limit r
  some_stops limit r e = go (stops_or_runs limit)
    where
      go : ((r : ℕ) × Stops P T limit r) ⊎ Running P T limit → Stops P T limit r
      go (inl (n, s)) = let d = stops_some limit n s in let q : n ≡ r = cc in rw q at s
      go (inr g) = let d = rounds_none limit g in let z : ◌≡◌ {A = ℕ} 0 1 = cc in absurd (omega arith)

  pub none_runs : (limit : ℕ) → rounds_to P T limit ≡ none → Running P T limit
  none_runs limit e = go (stops_or_runs limit)
    where
      go : ((r : ℕ) × Stops P T limit r) ⊎ Running P T limit → Running P T limit
      go (inl (n, s)) = let d = stops_some limit n s in let z : ◌≡◌ {A = ℕ} 0 1 = cc in absurd (omega arith)
      go (inr g) = g

  -- a higher limit leaves R as it is
  pub some_more : (limit n r : ℕ) → n ≤ limit → rounds_to P T n ≡ some r → rounds_to P T limit ≡ some r
  some_more limit n r h e = let s = some_stops n r e in stops_some limit r (record { before = s.before; is_after = s.is_after; within = omega (arith, s.within); runs = s.runs; here = s.here })

  -- ---- the outcome
  module _ (limit r : ℕ) (h : r < limit) (g : Running P T r) where
    pub ends_at : stops_at P T (suc r) ≡ true → Ends P T limit (pick (first_alarm_waits P (table_from P T (suc r))) (broken (suc r)) (kept (suc r))) (table_from P T (suc r))
    ends_at e = let d = rounds_some limit r h g e in record { outcome_is = rw d refl; table_is = rw d refl }

    pub ends_broken : first_alarm_waits P (table_from P T (suc r)) ≡ true → Ends P T limit (broken (suc r)) (table_from P T (suc r))
    ends_broken e = rw e at (ends_at (stops_by_lem r ∙ rw e refl))

    pub ends_kept : first_alarm_waits P (table_from P T (suc r)) ≡ false → same (table_from P T r) (table_from P T (suc r)) ≡ true → Ends P T limit (kept (suc r)) (table_from P T (suc r))
    ends_kept e q = rw e at (ends_at (stops_by_lem r ∙ rw (e, q) refl))

  pub ends_spent : (limit : ℕ) → Running P T limit → Ends P T limit (spent limit) (table_from P T limit)
  ends_spent limit g = let d = rounds_none limit g in record { outcome_is = rw d refl; table_is = rw d refl }

  -- a higher limit leaves what the rounds end with as it is, unless they were spent
  pub ends_more : (limit n : ℕ) → n ≤ limit → (b : Bool) (r : ℕ) → run_outcome P T n ≡ pick b (broken r) (kept r) → Ends P T limit (run_outcome P T n) (run_table P T n)
  ends_more limit n h b r q = go (rounds_to P T n) refl b q
    where
      go : (o : Option ℕ) → rounds_to P T n ≡ o → (b : Bool) → ended P T n o ≡ pick b (broken r) (kept r) → Ends P T limit (ended P T n o) (end_table P T n o)
      go none e true q = let z : ◌≡◌ {A = ℕ} 0 1 = cc in absurd (omega arith)
      go none e false q = let z : ◌≡◌ {A = ℕ} 0 1 = cc in absurd (omega arith)
      go (some s) e b q = let d = some_more limit n s h e in record { outcome_is = rw d refl; table_is = rw d refl }
