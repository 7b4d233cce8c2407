-- How a panel follows a table (20): second by second, by the table's waits and by what it has seen.
use Rattle.std.specs.Prelude.{◌≡◌, Bool, cond, not, ◌&&◌, ◌||◌, List, ℕ, zero, suc, ◌+◌, ◌-◌, ◌^◌, ◌<◌, T as Is, ltb, leb, eqb, get_or}
use Rattle.plan.specs.Label.{digit, plain}
use Rattle.plan.specs.Layout.{greatest}
use Rattle.plan.specs.LinkSet.{contains}
use Rattle.plan.specs.Plan.{Plan, cells}
use Rattle.plan.specs.Refusal.{every, differs}
use Rattle.rules.specs.Lines.{cell_of}
use Rattle.rules_panel.specs.Dramas.{AnyDuration, Drama}
use Rattle.rules_panel.specs.Positions.{position_by}
use Rattle.rules_panel.specs.Strategies.{Panel}

-- the first number below n that passes a test, n if none does
unfoldable pub first : (ℕ → Bool) → ℕ → ℕ
first f zero = 0
first f (suc n) = cond (ltb (first f n) n) (first f n) (cond (f n) n (suc n))

-- some number below n does
abbrev pub some : (ℕ → Bool) → ℕ → Bool
some f n = ltb (first f n) n

-- the numbers f i of the links i of a set, below n, added up
unfoldable pub sum_over : (ℕ → ℕ) → ℕ → ℕ → ℕ
sum_over f D zero = 0
sum_over f D (suc n) = sum_over f D n + cond (contains D n) (f n) 0

-- 20.1: what has come so far: the second that it is, the steps made, and for each point the step in which it came, from 1 on, and its time;
-- a point that has not come has 0 for both
pub record State : Type 0 where
  pub now : ℕ
  pub steps : ℕ
  pub step : ℕ → ℕ
  pub time : ℕ → ℕ

abbrev pub initial : State
initial = record { now = 0; steps = 0; step = λ x. 0; time = λ x. 0 }

abbrev pub executed : State → ℕ → Bool
executed s x = ltb 0 (s.step x)

-- 20.2: a step: a point comes now, or a second passes
abbrev pub execute : State → ℕ → State
execute s x = record {
  now = s.now;
  steps = suc s.steps;
  step = λ y. cond (eqb y x) (suc s.steps) (s.step y);
  time = λ y. cond (eqb y x) s.now (s.time y);
}

abbrev pub pass : State → State
pass s = record { now = suc s.now; steps = suc s.steps; step = s.step; time = s.time }

-- 20.3: an answer as a digit (2.1)
abbrev pub answer_digit : Bool → ℕ
answer_digit b = cond b 1 2

-- 20.4: digit d of proposition j agrees with the answers learnt: it is absent, not learnt yet, or the answer
abbrev pub agrees_at : (ℕ → ℕ) → ℕ → ℕ → Bool
agrees_at answers j d = eqb d 0 || eqb (answers j) 0 || eqb d (answers j)

-- 20.7: the point that the panel prefers, going by the state and the answers learnt
abbrev pub Preference : Type 0
Preference = State → (ℕ → ℕ) → ℕ

module _ (P : Plan) where
  -- 20.3: the answers learnt in a scenario, as digits; 0 where the observing point has not come
  abbrev pub learnt : (ℕ → Bool) → State → ℕ → ℕ
  learnt scenario s j = cond (ltb j P.propositions && executed s (P.observer j)) (answer_digit (scenario j)) 0

  -- 20.4: a label agrees: it is plain, and each of its digits does
  unfoldable pub agrees : (ℕ → ℕ) → ℕ → Bool
  agrees answers label = plain P.propositions label && every (λ j. agrees_at answers j (digit label j)) P.propositions

  -- 20.5: the seconds by which a link that has ended took longer than its least, and those of the links of a set together
  abbrev pub overrun : State → ℕ → ℕ
  overrun s i = s.time (P.finish i) - s.time (P.activation i) - P.least i

  abbrev pub late : State → ℕ → ℕ
  late s D = sum_over (overrun s) D P.links

  -- 20.5: each link of a set has ended
  unfoldable pub ended : State → ℕ → Bool
  ended s D = every (λ i. not (contains D i) || executed s (P.finish i)) P.links

  -- 20.6: two sets have no link in common
  unfoldable pub disjoint : ℕ → ℕ → Bool
  disjoint D set = every (λ i. not (contains D i && contains set i)) P.links

  -- 20.8: a link whose end is due: its activation has come, its duration ago
  abbrev pub due : (ℕ → ℕ) → State → ℕ → Bool
  due situation s i = executed s (P.activation i) && not (executed s (P.finish i)) && leb (s.time (P.activation i) + situation i) s.now

  -- 20.9: the longest wait of a table, and the steps that are enough for it
  abbrev pub longest_wait : List ℕ → ℕ
  longest_wait T = greatest (λ c. get_or T c 0) (cells P)

  abbrev pub steps_by : List ℕ → ℕ
  steps_by T = P.points + longest_wait T

  module _ (T : List ℕ) where
    -- 20.6: what the table holds for point x, a set and a label
    abbrev pub wait_of : ℕ → ℕ → ℕ → ℕ
    wait_of x set label = get_or T (cell_of P (record { point = x; set = set; label = label; wait = 0 })) 0

    -- 20.6: the line of point x with this set and label holds it back, if the links of D are left out: it agrees, has no link of D, and has not
    -- run out, late(D) ago
    unfoldable pub holds_back : State → (ℕ → ℕ) → ℕ → ℕ → ℕ → ℕ → Bool
    holds_back s answers x D set label = agrees answers label && disjoint D set && ltb s.now (wait_of x set label + late s D)

    -- 20.6: the links of D have ended, and if they are left out no line of point x holds it back, the starting line neither
    unfoldable pub goes_by : State → (ℕ → ℕ) → ℕ → ℕ → Bool
    goes_by s answers x D =
        ended s D && leb (late s D) s.now
        && every (λ set. every (λ label. not (holds_back s answers x D set label)) (4 ^ P.propositions)) (2 ^ P.links)

    -- 20.7: a point may come: it has not, it is no end of a link, and goes by some set of links
    unfoldable pub ready : State → (ℕ → ℕ) → ℕ → Bool
    ready s answers x =
        ltb x P.points && not (executed s x) && differs P.finish x P.links && some (goes_by s answers x) (2 ^ P.links)

    module _ (prefer : Preference) where
      -- 20.7: the point to come: the one preferred if it may come, else the first that may
      unfoldable pub chosen : State → (ℕ → ℕ) → ℕ
      chosen s answers = cond (ready s answers (prefer s answers)) (prefer s answers) (first (ready s answers) P.points)

      -- 20.8: one step: an end that is due comes, link i's; if none is, a point that may come; if none may, a second passes
      unfoldable pub act : State → (ℕ → ℕ) → ℕ → State
      act s answers i =
          cond (ltb i P.links) (execute s (P.finish i))
          (cond (ltb (chosen s answers) P.points) (execute s (chosen s answers)) (pass s))

      -- 20.8: the same in a drama, which says what is learnt and what is due
      abbrev pub next_state : Drama P AnyDuration → State → State
      next_state r s = act s (learnt r.scenario s) (first (due r.situation s) P.links)

      -- 20.8: the state after m steps
      unfoldable pub run : Drama P AnyDuration → ℕ → State
      run r zero = initial
      run r (suc m) = next_state r (run r m)

      -- 20.9: after as many steps as there are points and seconds in the longest wait
      abbrev pub final : Drama P AnyDuration → State
      final r = run r (steps_by T)

-- 20.10: a panel that follows the table keeps the plan, whatever the durations: every point comes, and the times, and the positions by the
-- steps (20.9), are those of a panel that keeps it
pub record Followed (P : Plan) (T : List ℕ) (prefer : Preference) : Type 0 where
  pub all_come : (r : Drama P AnyDuration) (x : ℕ) → x < P.points → Is (executed (final P T prefer r) x)
  pub panel : Panel 1 P AnyDuration
  pub its_time : (r : Drama P AnyDuration) (x : ℕ) → panel.strategy.time r x ≡ (final P T prefer r).time x
  pub its_position : (r : Drama P AnyDuration) (x : ℕ) → panel.strategy.position r x ≡ position_by P (final P T prefer r).step x
