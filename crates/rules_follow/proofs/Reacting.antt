-- A panel that follows a table reacts to what it has seen and to nothing else: two runs with the same history up to a point that is no end are in the same states until it has come.
use mathlib.Core.Path.{◌≡◌, refl, sym, ap, ap₂, ◌∙◌, fun_ext}
use mathlib.Core.Bool.{false, ◌&&◌}
use mathlib.Core.Logic.{◌⊎◌, inl, inr}
use mathlib.Core.List.{List}
use Prim.Native.Nat.{ℕ, zero, suc, ◌+◌, ◌≤◌, ◌<◌}
use native.Mathlib.Nat.{le_refl}
use native.Mathlib.Omega.{arith}
use lib.Dec.{T as Is, ltb, ltb→lt, lt→ltb}
use lib.Ieee.Fits.{and_l, and_r}
use Rattle.plan.specs.Plan.{Plan}
use Rattle.plan.proofs.Ranges.{WellFormed}
use Rattle.plan.proofs.Truth.{is?, same_test}
use Rattle.rules_panel.specs.Dramas.{AnyDuration, Drama}
use Rattle.rules_panel.specs.Strategies.{NoEnd, Strategy, Ended, SameHistory, SamePlace}
use Rattle.rules_panel.specs.Positions.{position_by}
use Rattle.rules_panel.proofs.Positions.{position_end, position_other, position_from, position_to, position_lower, position_distinct, position_same}
use Rattle.rules_follow.specs.Following.{State, executed, Preference, learnt, due, steps_by, act, next_state, run, final}
use Rattle.rules_follow.proofs.Searching.{first_same}
use Rattle.rules_follow.proofs.TableLines.{Closed}
use Rattle.rules_follow.proofs.Stepping.{Executed, Running, of_due, to_due}
use Rattle.rules_follow.proofs.Invariant.{holds}
use Rattle.rules_follow.proofs.Runs.{stays, no_earlier, Came, came, one_each, all_come}

module _ {P : Plan} (wf : WellFormed P) {T : List ℕ} (closed : Closed P T) (prefer : Preference) where
  abbrev N : ℕ
  N = steps_by P T

  abbrev at : Drama P AnyDuration → ℕ → State
  at r m = run P T prefer r m

  -- every end comes on time
  pub on_time : (r : Drama P AnyDuration) (i : ℕ) → i < P.links → (at r N).time (P.finish i) ≡ (at r N).time (P.activation i) + r.situation i
  on_time r i h = ((holds wf closed prefer r N).links i h).on_time (all_come wf closed prefer r (P.finish i) (wf.finish_in i h).1)

  -- the strategy of such a panel
  abbrev pub strategy : Strategy P AnyDuration
  strategy = record {
    time = λ r x. (final P T prefer r).time x;
    position = λ r x. position_by P (final P T prefer r).step x;
    end_first = λ r. position_end wf (final P T prefer r).step;
    observing_from = λ r. position_from wf (final P T prefer r).step;
    observing_to = λ r. position_to wf (final P T prefer r).step;
    distinct = λ r i j h k. position_distinct wf (final P T prefer r).step i j h k (λ e. wf.observer_once i j h k (one_each P T prefer r N (P.observer i) (P.observer j) (all_come wf closed prefer r (P.observer i) (wf.observer_in i h).1) e));
    other_last = λ r x h. position_other wf (final P T prefer r).step x;
  }

  -- two runs that are in one state after n steps, and a point that has come by then in the one
  same_step : (r u : Drama P AnyDuration) (n y : ℕ) → n ≤ N → at u n ≡ at r n → y < P.points → (at r N).step y ≤ n → (at u N).step y ≡ (at r N).step y
  same_step r u n y h e hy l =
      let c = came P T prefer r N y (all_come wf closed prefer r y hy) in
      let a = stays P T prefer r (suc c.before) n y (omega (arith, c.step_is)) (omega (arith, c.step_then)) in
      let d : Executed (at u n) y = omega (arith, ap (λ (s : State). s.step y) e, a.step_is, c.step_then) in
      omega (arith, (stays P T prefer u n N y h d).step_is, ap (λ (s : State). s.step y) e, a.step_is, c.step_then, c.step_is)

  module _ (r u : Drama P AnyDuration) (x : ℕ) (ne : NoEnd P x) (same : SameHistory strategy (strategy.time r x) (strategy.position r x) r u) (c : Came P T prefer r N x) where
    -- the steps before the one in which x comes
    abbrev M : ℕ
    M = c.before

    -- a link whose end is due by then is in the history, with its duration
    took : (d : Drama P AnyDuration) (m i : ℕ) → m ≤ M → (at d m).now ≤ (at r M).now → i < P.links → Running P (at d m) i → (at d m).time (P.activation i) + d.situation i ≤ (at d m).now
        → Ended strategy (strategy.time r x) d i (d.situation i)
    took d m i h soon k g due = record {
      link = k;
      by_then = omega (arith, c.time_is, on_time d i k, (stays P T prefer d m N (P.activation i) (omega (arith, c.within)) g.begun).time_is, due, soon);
      took = on_time d i k;
    }

    -- how long a link took is what its drama says
    taken : (d : Drama P AnyDuration) (i n : ℕ) → Ended strategy (strategy.time r x) d i n → d.situation i ≡ n
    taken d i n e = omega (arith, e.took, on_time d i e.link)

    -- up to the step in which x comes the two do the same, from one state
    module _ (m : ℕ) (h : m ≤ M) (alike : at u m ≡ at r m) where
      soon : (at r m).now ≤ (at r M).now
      soon = no_earlier P T prefer r m M h

      due_same : (i : ℕ) → i < P.links → due P u.situation (at r m) i ≡ due P r.situation (at r m) i
      due_same i hi = same_test (due P u.situation (at r m) i) (due P r.situation (at r m) i) to from
        where
          from : Is (due P r.situation (at r m) i) → Is (due P u.situation (at r m) i)
          from t =
              let a = of_due r (at r m) i t in
              let e = taken u i (r.situation i) ((same.ended i (r.situation i)).0 (took r m i h soon hi a.0 a.1)) in
              to_due u (at r m) i a.0 (omega (arith, e, a.1))

          to : Is (due P u.situation (at r m) i) → Is (due P r.situation (at r m) i)
          to t =
              let a = of_due u (at u m) i (rw alike t) in
              let e = taken r i (u.situation i) ((same.ended i (u.situation i)).1 (took u m i h (omega (arith, ap (λ (s : State). s.now) alike, soon)) hi a.0 a.1)) in
              let b = of_due u (at r m) i t in
              to_due r (at r m) i b.0 (omega (arith, e, b.1))

      value_same : (j : ℕ) → j < P.propositions → Executed (at r m) (P.observer j) → u.scenario j ≡ r.scenario j
      value_same j hj d =
          let k = stays P T prefer r m N (P.observer j) (omega (arith, c.within)) d in
          let b = came P T prefer r m (P.observer j) d in
          ((same.observed j (r.scenario j)).0 (record {
            proposition = hj;
            by_then = omega (arith, k.time_is, b.time_is, c.time_is, no_earlier P T prefer r b.before M (omega (arith, b.within)));
            before = position_lower wf (final P T prefer r).step j x hj ne (omega (arith, k.step_is, b.step_is, b.within, c.step_is));
            value = refl;
          })).value

      learnt_same : (j : ℕ) → learnt P u.scenario (at r m) j ≡ learnt P r.scenario (at r m) j
      learnt_same j = go (is? (ltb j P.propositions && executed (at r m) (P.observer j)))
        where
          go : Is (ltb j P.propositions && executed (at r m) (P.observer j)) ⊎ ((ltb j P.propositions && executed (at r m) (P.observer j)) ≡ false) → learnt P u.scenario (at r m) j ≡ learnt P r.scenario (at r m) j
          go (inl t) = rw (value_same j (ltb→lt j P.propositions (and_l (ltb j P.propositions) _ t)) (ltb→lt 0 _ (and_r (ltb j P.propositions) _ t)))
          go (inr e) = rw e

      step_same : next_state P T prefer u (at r m) ≡ next_state P T prefer r (at r m)
      step_same = ap₂ (act P T prefer (at r m)) (fun_ext learnt_same) (first_same (due P u.situation (at r m)) (due P r.situation (at r m)) P.links due_same)

    alike : (m : ℕ) → m ≤ suc M → at u m ≡ at r m
    unfolding run
    alike zero h = refl
    alike (suc m) h =
        let e = alike m (omega arith) in
        ap (next_state P T prefer u) e ∙ step_same m (omega arith) e

    then : at u (suc M) ≡ at r (suc M)
    then = alike (suc M) (le_refl _)

    step_same_x : x < P.points → (at u N).step x ≡ (at r N).step x
    step_same_x hx = same_step r u (suc M) x c.within then hx (omega (arith, c.step_is))

    earlier_same : x < P.points → (j : ℕ) → j < P.propositions → ltb ((at u N).step (P.observer j)) ((at u N).step x) ≡ ltb ((at r N).step (P.observer j)) ((at r N).step x)
    earlier_same hx j h = same_test (ltb ((at u N).step (P.observer j)) ((at u N).step x)) (ltb ((at r N).step (P.observer j)) ((at r N).step x)) to from
      where
        inside : P.observer j < P.points
        inside = (wf.observer_in j h).1

        to : Is (ltb ((at u N).step (P.observer j)) ((at u N).step x)) → Is (ltb ((at r N).step (P.observer j)) ((at r N).step x))
        to t =
            let l = ltb→lt ((at u N).step (P.observer j)) ((at u N).step x) t in
            lt→ltb ((at r N).step (P.observer j)) ((at r N).step x) (omega (arith, l, step_same_x hx, same_step u r (suc M) (P.observer j) c.within (sym then) inside (omega (arith, l, step_same_x hx, c.step_is))))

        from : Is (ltb ((at r N).step (P.observer j)) ((at r N).step x)) → Is (ltb ((at u N).step (P.observer j)) ((at u N).step x))
        from t =
            let l = ltb→lt ((at r N).step (P.observer j)) ((at r N).step x) t in
            lt→ltb ((at u N).step (P.observer j)) ((at u N).step x) (omega (arith, l, step_same_x hx, same_step r u (suc M) (P.observer j) c.within then inside (omega (arith, l, c.step_is))))

    same_when : x < P.points → SamePlace strategy r u x
    same_when hx = record {
      same_time =
          let d : Executed (at r (suc M)) x = omega (arith, c.step_then) in
          let d' : Executed (at u (suc M)) x = rw then d in
          (stays P T prefer u (suc M) N x c.within d').time_is ∙ ap (λ (s : State). s.time x) then ∙ sym (stays P T prefer r (suc M) N x c.within d).time_is;
      same_position = position_same P (final P T prefer u).step (final P T prefer r).step x (earlier_same hx);
    }

  -- a point that is no end comes at the same time and place in two dramas with the same history of it
  pub same_place : (r u : Drama P AnyDuration) (x : ℕ) → x < P.points → NoEnd P x → SameHistory strategy (strategy.time r x) (strategy.position r x) r u → SamePlace strategy r u x
  same_place r u x hx ne same = same_when r u x ne same (came P T prefer r N x (all_come wf closed prefer r x hx)) hx
