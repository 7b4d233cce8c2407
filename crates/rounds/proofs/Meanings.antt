-- What the rounds from zeros answer and leave means what 15 says, of any well-formed plan and of the bytes of any accepted plan; and the limit that serves them all.
use mathlib.Core.Path.{◌≡◌, refl, sym, subst, ◌∙◌}
use mathlib.Core.Bool.{Bool, true, false}
use mathlib.Core.Logic.{◌↔◌, ◌⊎◌, inl, inr}
use mathlib.Core.List.{List, [], ◌++◌}
use Prim.Native.Nat.{ℕ, zero, suc, ◌+◌, ◌*◌, ◌≤◌, ◌<◌}
use native.Mathlib.Nat.{mul-le-mul}
use native.Mathlib.Omega.{arith}
use lib.ListN.{length, get_or, length-replicate, get_or-append}
use Rattle.plan.specs.Plan.{Plan, cells}
use Rattle.plan.specs.Layout.{plan_of}
use Rattle.plan.specs.Refusal.{most_seconds, Accepted}
use Rattle.plan.proofs.Ranges.{WellFormed, accepted_well_formed, accepted_bounded}
use Rattle.rules.specs.Derivations.{SelfWait}
use Rattle.rules.proofs.Next.{IsNext, next_is}
use Rattle.rules.proofs.FirstAlarm.{Quiet}
use Rattle.rules_panel.specs.Dramas.{AnyDuration}
use Rattle.rules_panel.specs.Strategies.{Panel}
use Rattle.rules_panel.proofs.Broken.{no_panel}
use Rattle.rules_panel.proofs.FewerDurations.{none_for_any}
use Rattle.rules_follow.specs.Following.{Preference, Followed}
use Rattle.rules_follow.proofs.TableLines.{Closed}
use Rattle.rules_follow.proofs.Followed.{closed_on, quiet_on, followed}
use Rattle.rounds_tables.proofs.Comparing.{same_eq}
use Rattle.rounds_making.specs.Rounds.{table_from, zeros, first_alarm_waits, stops_at}
use Rattle.rounds_making.specs.Outcomes.{Outcome, kept, broken, spent, refused, run_outcome, run_table}
use Rattle.rounds_making.proofs.TableLengths.{run_length}
use Rattle.rounds_making.proofs.Stopping.{Running, running_less, tests_fail, one_holds, Stops, stops_or_runs, ends_broken, ends_kept, ends_spent}
use Rattle.rounds.specs.Meaning.{IsKept, IsBroken, IsSpent, IsRefused, HoldsLongest, enough_rounds, serving_limit, Meaning}
use Rattle.rounds.proofs.Sums.{sum, sum_lt, sum_bound}
use Rattle.rounds.proofs.Verdict.{Inv, inv_table, self_wait, no_self_wait, holds_longest}

-- an answer that is neither a refusal nor spent is a verdict
verdict : (o : Outcome) → (IsRefused o → ⊥) → (IsSpent o → ⊥) → IsBroken o ⊎ IsKept o
verdict (kept r) u n = inr tt
verdict (broken r) u n = inl tt
verdict (spent r) u n = absurd (n tt)
verdict (refused k) u n = absurd (u tt)

module _ (P : Plan) (wf : WellFormed P) where
  -- table(r) of the check
  abbrev table : ℕ → List ℕ
  table r = table_from P (zeros P) r

  -- each round that does not stop raises the sum of the cells
  running_sum : (r : ℕ) → Running P (zeros P) r → r ≤ sum (table r)
  running_sum zero g = omega arith
  running_sum (suc r) g =
      let before = running_less P (zeros P) r (suc r) (omega arith) g in
      let v = inv_table P wf r before in
      let n = next_is P wf (table r) v.sized in
      omega (arith, running_sum r before, sum_lt (table r) (table (suc r)) (sym n.as_long) (λ c k. n.no_lower c (rw (← v.sized) k)) (tests_fail P (zeros P) r (g.goes r (omega arith))).1)

  -- so that one of the first cells * (horizon + M) + 1 rounds stops
  pub running_bound : (r : ℕ) → Running P (zeros P) r → r ≤ cells P * (P.horizon + P.largest)
  running_bound r g =
      let v = inv_table P wf r g in
      let b : sum (table r) ≤ cells P * (P.horizon + P.largest) = rw v.sized at (sum_bound (table r) (P.horizon + P.largest) (λ c k. v.high c (rw (← v.sized) k))) in
      omega (arith, running_sum r g)

  -- the table of a plan that is kept
  pub record Settled (A : List ℕ) : Type 0 where
    pub closed : Closed P A
    pub quiet : Quiet P A
    pub longest : (c : ℕ) → c < cells P → HoldsLongest P c (get_or A c 0)
    pub no_wait : SelfWait P → ⊥

  -- what the rounds from zeros say, from which the rest follows
  pub record RunSays (limit : ℕ) (o : Outcome) (A : List ℕ) : Type 0 where
    pub waits : IsBroken o → SelfWait P
    pub settled : IsKept o → Settled A
    pub decided : enough_rounds P ≤ limit → IsBroken o ⊎ IsKept o

  module _ (limit : ℕ) where
    abbrev Says : Type 0
    Says = RunSays limit (run_outcome P (zeros P) limit) (run_table P (zeros P) limit)

    -- round r + 1 is the first that stops
    stops_say : (r : ℕ) → r < limit → Running P (zeros P) r → stops_at P (zeros P) (suc r) ≡ true → Says
    stops_say r h g s = go (first_alarm_waits P B) refl
      where
        A : List ℕ
        A = table r

        B : List ℕ
        B = table (suc r)

        v : Inv P wf A
        v = inv_table P wf r g

        n : IsNext P A B
        n = next_is P wf A v.sized

        go : (b : Bool) → first_alarm_waits P B ≡ b → Says
        go true e =
            let w = self_wait P wf A B v n e in
            let d = ends_broken P (zeros P) limit r h g e in
            rw (d.outcome_is, d.table_is) (record { waits = λ b. w; settled = λ k. absurd k; decided = λ f. inl tt })
        go false e =
            let q = one_holds P (zeros P) r s e in
            let b : B ≡ A = sym (same_eq A B q) in
            let m : IsNext P A A = subst (IsNext P A) b n in
            let d = ends_kept P (zeros P) limit r h g e q in
            rw (d.outcome_is, d.table_is ∙ b) (record { waits = λ x. absurd x; settled = λ k. record { closed = m.covers; quiet = v.quiet; longest = holds_longest P wf A v m; no_wait = no_self_wait P wf A v m }; decided = λ f. inr tt })

    -- no round up to the limit stops, so that it is not enough
    limit_says : Running P (zeros P) limit → Says
    limit_says g =
        let d = ends_spent P (zeros P) limit g in
        rw (d.outcome_is, d.table_is) (record { waits = λ x. absurd x; settled = λ x. absurd x; decided = λ h. absurd (omega (arith, running_bound limit g)) })

    pub run_says : Says
    run_says = go (stops_or_runs P (zeros P) limit)
      where
        go : ((r : ℕ) × Stops P (zeros P) limit r) ⊎ Running P (zeros P) limit → Says
        go (inl (r, s)) = stops_say s.before s.within s.runs s.here
        go (inr g) = limit_says g

  -- so the meaning of the answer (15), of any two tables that begin with this one
  module _ (limit : ℕ) (o : Outcome) (A : List ℕ) (says : RunSays limit o A) where
    broken_if : enough_rounds P ≤ limit → SelfWait P → IsBroken o
    broken_if h w = go (says.decided h)
      where
        go : IsBroken o ⊎ IsKept o → IsBroken o
        go (inl b) = b
        go (inr k) = absurd ((says.settled k).no_wait w)

    kept_if : enough_rounds P ≤ limit → (SelfWait P → ⊥) → IsKept o
    kept_if h n = go (says.decided h)
      where
        go : IsBroken o ⊎ IsKept o → IsKept o
        go (inl b) = absurd (n (says.waits b))
        go (inr k) = k

    module _ (whole : length A ≡ cells P) where
      follows : IsKept o → (F : List ℕ) (prefer : Preference) → Followed P (A ++ F) prefer
      follows k F prefer = let t = says.settled k in followed wf (closed_on wf A F whole t.closed) (quiet_on wf A F whole t.quiet) prefer

      -- kept exactly when a panel can
      kept_exactly : (IsRefused o → ⊥) → (IsSpent o → ⊥) → IsKept o ↔ Panel 1 P AnyDuration
      kept_exactly u n = (λ k. (follows k [] (λ s answers. 0)).panel, go (verdict o u n))
        where
          go : IsBroken o ⊎ IsKept o → Panel 1 P AnyDuration → IsKept o
          go (inl b) p = absurd (none_for_any (no_panel P wf (says.waits b)) 1 (omega arith) p)
          go (inr k) p = k

      pub means : (F G : List ℕ) → Meaning P limit o (A ++ F) (A ++ G)
      means F G = record {
        broken_then = says.waits;
        broken_no_panel = λ b. no_panel P wf (says.waits b);
        kept_then = λ k. (says.settled k).no_wait;
        first_longest = λ k c h. rw (get_or-append A F 0 c (omega arith)) ((says.settled k).longest c h);
        second_longest = λ k c h. rw (get_or-append A G 0 c (omega arith)) ((says.settled k).longest c h);
        first_followed = λ k. follows k F;
        second_followed = λ k. follows k G;
        broken_if = λ u. broken_if;
        kept_if = λ u. kept_if;
        kept_exactly = kept_exactly;
      }

-- a refusal says nothing of the plan
pub refused_means : (P : Plan) (limit k : ℕ) (F G : List ℕ) → Meaning P limit (refused k) F G
refused_means P limit k F G = record {
  broken_then = λ x. absurd x;
  broken_no_panel = λ x. absurd x;
  kept_then = λ x. absurd x;
  first_longest = λ x. absurd x;
  second_longest = λ x. absurd x;
  first_followed = λ x. absurd x;
  second_followed = λ x. absurd x;
  broken_if = λ u. absurd (u tt);
  kept_if = λ u. absurd (u tt);
  kept_exactly = λ u. absurd (u tt);
}

-- 15.4's number for the most cells, the longest horizon and the largest M
serving_is : serving_limit ≡ 16384 * (32 * most_seconds + most_seconds + 1) + 1
serving_is = refl

-- ---- over the bytes of a plan
module _ (bs : List ℕ) (accepted : Accepted bs) where
  abbrev P : Plan
  P = plan_of bs

  pub run_means_bytes : (limit : ℕ) (F G : List ℕ) → Meaning P limit (run_outcome P (zeros P) limit) (run_table P (zeros P) limit ++ F) (run_table P (zeros P) limit ++ G)
  run_means_bytes limit = means P wf limit (run_outcome P (zeros P) limit) (run_table P (zeros P) limit) (run_says P wf limit) (run_length P wf (zeros P) (length-replicate (cells P) 0) limit)
    where
      wf : WellFormed P
      wf = accepted_well_formed bs accepted

  -- the limit that serves every accepted plan
  pub serves : enough_rounds P ≤ serving_limit
  serves =
      let b = accepted_bounded bs accepted in
      let h : P.horizon + P.largest + 1 ≤ 32 * most_seconds + most_seconds + 1 = omega (arith, b.horizon_in, b.largest_in) in
      rw serving_is (omega (arith, mul-le-mul b.cells_in h))

  -- enough rounds leave no plan undecided
  pub decided : (limit : ℕ) (o : Outcome) (F G : List ℕ) → Meaning P limit o F G → serving_limit ≤ limit → IsSpent o → ⊥
  decided limit (spent n) F G d h s = let e : enough_rounds P ≤ limit = omega (arith, serves) in d.kept_if (λ x. x) e (λ w. d.broken_if (λ x. x) e w)
  decided limit (kept r) F G d h s = s
  decided limit (broken r) F G d h s = s
  decided limit (refused n) F G d h s = s
