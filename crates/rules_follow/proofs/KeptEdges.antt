-- Times that keep every edge: ends come on time, each point that is no end went by a set of links, and each point has, whatever links are left out, a true line of its time less
-- their lateness.
use mathlib.Core.Path.{◌≡◌, refl, sym, subst}
use mathlib.Core.Logic.{◌⊎◌, inl, inr}
use mathlib.Core.List.{List}
use Prim.Native.Nat.{ℕ, ◌+◌, ◌-◌, ◌^◌, ◌≤◌, ◌<◌}
use native.Mathlib.Nat.{le_refl}
use native.Mathlib.Decide.{dec_le}
use native.Mathlib.Omega.{arith}
use lib.Dec.{T as Is}
use Rattle.plan.specs.LinkSet.{contains, insert}
use Rattle.plan.specs.Plan.{Plan}
use Rattle.plan.proofs.Digits.{in_added, in_insert, of_insert, insert_in}
use Rattle.plan.proofs.Ranges.{WellFormed}
use Rattle.rules_panel.specs.Dramas.{AnyDuration, Drama, True}
use Rattle.rules_panel.specs.Strategies.{NoEnd}
use Rattle.rules_follow.proofs.Lateness.{Out, sum_but, over, lateness}
use Rattle.rules_follow.proofs.TableLines.{Closed, HasLine, start, weaker, propagation, lower_case}
use Rattle.rules_follow.proofs.LinkChains.{at_all}
use Rattle.rules_follow.proofs.KnownDigits.{TrueDigit, true_joins, true_plain, true_digit}

module _ {P : Plan} (T : List ℕ) (r : Drama P AnyDuration) where
  -- a set such that every true line of x without a link of it waits at most t less the set's lateness
  pub record WentBy (x t : ℕ) : Type 0 where
    pub by : ℕ
    pub by_in : by < 2 ^ P.links
    pub bound : (w : ℕ) → HasLine P T x w (Out by) (TrueDigit r) → w + lateness r by ≤ t

  pub record Timed (time : ℕ → ℕ) : Type 0 where
    pub went : (x : ℕ) → x < P.points → NoEnd P x → WentBy x (time x)
    pub on_time : (i : ℕ) → i < P.links → time (P.finish i) ≡ time (P.activation i) + r.situation i
    pub sure : (D : ℕ) → D < 2 ^ P.links → (x : ℕ) → x < P.points → HasLine P T x (time x - lateness r D) (Out D) (TrueDigit r)

module _ {P : Plan} (wf : WellFormed P) {T : List ℕ} (closed : Closed P T) (r : Drama P AnyDuration) where
  -- rule 1
  over_edge : (Q : ℕ → Type 0) (e w : ℕ) → e < P.edges → True P r.scenario (P.label e) → P.up e < w + P.down e
      → HasLine P T (P.to e) w Q (TrueDigit r) → HasLine P T (P.from e) (w + P.down e - P.up e) Q (TrueDigit r)
  over_edge Q e w h t more a = propagation P wf T closed e h a (true_plain r) (true_plain r) (λ j d hj. true_joins r j _ d (true_digit r (P.label e) t (wf.label_plain e h) j hj)) more

  -- a set that a point went by is late by its time or less: the starting line
  late_le : (x t : ℕ) → x < P.points → (b : WentBy T r x t) → lateness r b.by ≤ t
  late_le x t h b = omega (arith, b.bound 0 (start x h (λ j k. inl refl) (le_refl _)))

  -- an end went by its activation's set and its own link: rule 2
  end_by : (i : ℕ) → i < P.links → (t : ℕ) → WentBy T r (P.activation i) t → WentBy T r (P.finish i) (t + r.situation i)
  end_by i h t b = record { by = insert b.by i; by_in = insert_in P.links b.by i b.by_in h; bound = within }
    where
      D : ℕ
      D = insert b.by i

      late : lateness r D ≤ lateness r b.by + over r i
      late = sum_but (over r) D b.by i P.links (λ k hk n q. one k n (of_insert b.by i k q))
        where
          one : (k : ℕ) → (k ≡ i → ⊥) → Is (contains b.by k) ⊎ (k ≡ i) → Is (contains b.by k)
          one k n (inl q) = q
          one k n (inr e) = absurd (n e)

      within : (w : ℕ) → HasLine P T (P.finish i) w (Out D) (TrueDigit r) → w + lateness r D ≤ t + r.situation i
      within w a = go (dec_le w (P.least i))
        where
          go : Dec (w ≤ P.least i) → w + lateness r D ≤ t + r.situation i
          go (yes q) = omega (arith, late, r.no_shorter i h, late_le (P.activation i) t (wf.activation_in i h) b)
          go (no q) =
              let c = lower_case P wf T closed i h a (true_plain r) (λ o. o (in_added b.by i)) (omega arith) in
              omega (arith, late, r.no_shorter i h, b.bound (w - P.least i) (weaker c (le_refl _) (λ k hk o q. o (in_insert b.by i k q)) (λ j d k z. z)))

  module _ (time : ℕ → ℕ) (timed : Timed T r time) where
    -- every point, ends too, went by a set
    all_went : (x : ℕ) → x < P.points → WentBy T r x (time x)
    all_went = at_all P wf T closed (λ x. WentBy T r x (time x)) timed.went (λ i h b. subst (WentBy T r (P.finish i)) (sym (timed.on_time i h)) (end_by i h (time (P.activation i)) b))

    -- every edge whose label is true is kept
    pub keeps : (e : ℕ) → e < P.edges → True P r.scenario (P.label e) → time (P.to e) + P.down e ≤ time (P.from e) + P.up e
    keeps e h t = go (dec_le (v + P.down e) (P.up e))
      where
        b : WentBy T r (P.from e) (time (P.from e))
        b = all_went (P.from e) (wf.from_in e h)

        v : ℕ
        v = time (P.to e) - lateness r b.by

        go : Dec (v + P.down e ≤ P.up e) → time (P.to e) + P.down e ≤ time (P.from e) + P.up e
        go (yes q) = omega (arith, late_le (P.from e) (time (P.from e)) (wf.from_in e h) b)
        go (no q) = omega (arith, b.bound (v + P.down e - P.up e) (over_edge (Out b.by) e v h t (omega arith) (timed.sure b.by b.by_in (P.to e) (wf.to_in e h))))
