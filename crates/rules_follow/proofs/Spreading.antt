-- What waits for something unknown waits for what is known: when no point may come, every point that has not come has, whatever links are left out, a line of which all is known
-- and which waits until the next second, less the seconds by which those links are late. So the next second is no loss.
use mathlib.Core.Path.{◌≡◌, refl}
use mathlib.Core.Bool.{false}
use mathlib.Core.Logic.{◌⊎◌, inl, inr}
use mathlib.Core.List.{List}
use Prim.Native.Nat.{ℕ, zero, suc, ◌+◌, ◌-◌, ◌^◌, ◌≤◌, ◌<◌}
use native.Mathlib.Nat.{le_refl}
use native.Mathlib.Decide.{ℕ_discrete, dec_lt}
use native.Mathlib.Omega.{arith}
use lib.Dec.{T as Is}
use Rattle.plan.specs.Label.{join_digit}
use Rattle.plan.specs.LinkSet.{contains, remove}
use Rattle.plan.specs.Plan.{Plan}
use Rattle.plan.proofs.Digits.{in_remove, of_remove, remove_in_lem}
use Rattle.plan.proofs.Ranges.{WellFormed}
use Rattle.plan.proofs.Truth.{is?, is_not}
use Rattle.rules_panel.specs.Dramas.{AnyDuration, Drama}
use Rattle.rules_panel.specs.Strategies.{NoEnd}
use Rattle.rules_panel.proofs.Positions.{observer_no_end}
use Rattle.rules_follow.specs.Following.{State}
use Rattle.rules_follow.proofs.Lateness.{Out, sum_more, over, lateness}
use Rattle.rules_follow.proofs.TableLines.{Closed, HasLine, start, weaker, shorter, clear_own, remove_literal, remove_link, upper_case, remove_own}
use Rattle.rules_follow.proofs.LinkChains.{at_all}
use Rattle.rules_follow.proofs.Stepping.{Executed, done?, Running}
use Rattle.rules_follow.proofs.KnownDigits.{Known, known_plain, known_joins, Agrees}

-- each link of a set has ended
abbrev pub AllEnded : Plan → State → ℕ → Type 0
AllEnded P s D = (i : ℕ) → i < P.links → Is (contains D i) → Executed s (P.finish i)

module _ {P : Plan} (T : List ℕ) (r : Drama P AnyDuration) (s : State) where
  -- a line of x without a link of D, all of it known, that waits until t less the lateness of D
  abbrev pub Sure : ℕ → ℕ → ℕ → Type 0
  Sure D x t = HasLine P T x (t - lateness r D) (Out D) (Known r s)

  -- one that agrees
  abbrev pub HeldUntil : ℕ → ℕ → ℕ → Type 0
  HeldUntil D x t = HasLine P T x (t - lateness r D) (Out D) (Agrees r s)

  -- what is so when nothing more comes before the second t
  pub record Idle (t : ℕ) : Type 0 where
    pub held : (D : ℕ) → D < 2 ^ P.links → AllEnded P s D → (x : ℕ) → x < P.points → NoEnd P x → (Executed s x → ⊥) → HeldUntil D x t
    pub sure : (D : ℕ) → D < 2 ^ P.links → (x : ℕ) → x < P.points → Executed s x → Sure D x (s.time x)
    pub on_way : (i : ℕ) → i < P.links → Running P s i → t ≤ s.time (P.activation i) + r.situation i

module _ {P : Plan} (wf : WellFormed P) {T : List ℕ} (closed : Closed P T) (r : Drama P AnyDuration) (s : State) (t : ℕ) (idle : Idle T r s t) where
  -- ---- propositions, one by one, where the links left out have all ended
  module _ (D : ℕ) (hD : D < 2 ^ P.links) (ended : AllEnded P s D) where
    abbrev w : ℕ
    w = t - lateness r D

    -- known, or of a proposition from m on that is not learnt yet
    abbrev After : ℕ → ℕ → ℕ → Type 0
    After m j d = Known r s j d ⊎ ((Executed s (P.observer j) → ⊥) × (m ≤ j))

    after_joins : (m j d e : ℕ) → After m j d → After m j e → After m j (join_digit d e)
    after_joins m j d e (inl a) (inl b) = inl (known_joins r s j d e a b)
    after_joins m j d e (inl a) (inr b) = inr b
    after_joins m j d e (inr a) b = inr a

    after_other : (m k d : ℕ) → (k ≡ m → ⊥) → After m k d → After (suc m) k d
    after_other m k d n (inl a) = inl a
    after_other m k d n (inr a) = inr (a.0, omega (arith, a.1))

    after_learnt : (m : ℕ) → Executed s (P.observer m) → (k d : ℕ) → After m k d → After (suc m) k d
    after_learnt m l k d (inl a) = inl a
    after_learnt m l k d (inr a) = let f : k ≡ m → ⊥ = λ e. a.0 (rw e l) in inr (a.0, omega (arith, a.1))

    module _ (later : 0 < w) where
      literals : (m : ℕ) → m ≤ P.propositions → (x : ℕ) → x < P.points → NoEnd P x → (Executed s x → ⊥) → HasLine P T x w (Out D) (After m)
      literals zero h x hx e n = weaker (idle.held D hD ended x hx e n) (le_refl _) (λ i k q. q) first
        where
          first : (j d : ℕ) → j < P.propositions → Agrees r s j d → After 0 j d
          first j d k (inl a) = inl a
          first j d k (inr a) = inr (a, omega arith)
      literals (suc m) h x hx e n = go (done? s (P.observer m)) (literals m (omega arith))
        where
          go : Dec (Executed s (P.observer m)) → ((x : ℕ) → x < P.points → NoEnd P x → (Executed s x → ⊥) → HasLine P T x w (Out D) (After m)) → HasLine P T x w (Out D) (After (suc m))
          go (yes l) all = weaker (all x hx e n) (le_refl _) (λ i k q. q) (λ j d k q. after_learnt m l j d q)
          go (no u) all = remove_literal P wf T closed m (omega arith) later (all x hx e n) own none (inl (inl refl)) (after_other m) (after_joins (suc m))
            where
              own : HasLine P T (P.observer m) w (Out D) (After (suc m))
              own = clear_own P wf T closed m (omega arith) later (all (P.observer m) (wf.observer_in m (omega arith)).1 (observer_no_end wf m (omega arith)) u) (inl (inl refl)) (after_other m)

              none : (d : ℕ) → After (suc m) m d → d ≡ 0
              none d (inl (inl e)) = e
              none d (inl (inr e)) = absurd (u e.0)
              none d (inr e) = absurd (omega (arith, e.1))

    no_literals : (x : ℕ) → x < P.points → NoEnd P x → (Executed s x → ⊥) → Sure T r s D x t
    no_literals x hx e n = go (dec_lt 0 w)
      where
        last : (j d : ℕ) → j < P.propositions → After P.propositions j d → Known r s j d
        last j d k (inl a) = a
        last j d k (inr a) = absurd (omega (arith, a.1))

        go : Dec (0 < w) → Sure T r s D x t
        go (yes later) = weaker (literals later P.propositions (le_refl _) x hx e n) (le_refl _) (λ i k q. q) last
        go (no q) = start x hx (λ j k. inl refl) (omega arith)

    -- ---- ends: rule 3
    out : (i : ℕ) → i < P.links → (Executed s (P.finish i) → ⊥) → Out D i
    out i h n c = n (ended i h c)

    ends : (x : ℕ) → x < P.points → (Executed s x → ⊥) → Sure T r s D x t
    ends = at_all P wf T closed (λ x. (Executed s x → ⊥) → Sure T r s D x t) no_literals end
      where
        end : (i : ℕ) → i < P.links → ((Executed s (P.activation i) → ⊥) → Sure T r s D (P.activation i) t) → (Executed s (P.finish i) → ⊥) → Sure T r s D (P.finish i) t
        end i h before n = go (done? s (P.activation i))
          where
            up : {v : ℕ} → HasLine P T (P.activation i) v (Out D) (Known r s) → t - lateness r D ≤ v + P.most i → Sure T r s D (P.finish i) t
            up a le = shorter (upper_case P wf T closed i h a (known_plain r s) (out i h n) (λ k q. q)) le

            go : Dec (Executed s (P.activation i)) → Sure T r s D (P.finish i) t
            go (no a) = up (before a) (omega arith)
            go (yes a) = up (idle.sure D hD (P.activation i) (wf.activation_in i h) a) (omega (arith, idle.on_way i h (record { begun = a; not_ended = n }), r.no_longer i h))

  -- ---- links left out that have not ended, one by one: rule 4
  -- each link of D has ended or is below m
  abbrev EndedFrom : ℕ → ℕ → Type 0
  EndedFrom m D = (i : ℕ) → i < P.links → Is (contains D i) → Executed s (P.finish i) ⊎ (i < m)

  ended_below : (m D : ℕ) → (Is (contains D m) → Executed s (P.finish m)) → EndedFrom (suc m) D → EndedFrom m D
  ended_below m D own e i h c = go (e i h c) (ℕ_discrete i m)
    where
      go : Executed s (P.finish i) ⊎ (i < suc m) → Dec (i ≡ m) → Executed s (P.finish i) ⊎ (i < m)
      go (inl d) q = inl d
      go (inr l) (yes q) = inl (rw q (own (rw q at c)))
      go (inr l) (no q) = inr (omega arith)

  letters : (m : ℕ) → m ≤ P.links → (D : ℕ) → D < 2 ^ P.links → EndedFrom m D → (x : ℕ) → x < P.points → (Executed s x → ⊥) → Sure T r s D x t
  letters zero h D hD e x hx n = ends D hD (λ i hi c. ended i hi (e i hi c)) x hx n
    where
      ended : (i : ℕ) → i < P.links → Executed s (P.finish i) ⊎ (i < 0) → Executed s (P.finish i)
      ended i hi (inl d) = d
      ended i hi (inr l) = absurd (omega arith)
  letters (suc m) h D hD e x hx n = go (is? (contains D m)) (done? s (P.finish m)) (letters m (omega arith))
    where
      go : Is (contains D m) ⊎ (contains D m ≡ false) → Dec (Executed s (P.finish m)) → ((D : ℕ) → D < 2 ^ P.links → EndedFrom m D → (x : ℕ) → x < P.points → (Executed s x → ⊥) → Sure T r s D x t) → Sure T r s D x t
      go (inr c) d all = all D hD (ended_below m D (λ q. absurd (is_not c q)) e) x hx n
      go (inl c) (yes d) all = all D hD (ended_below m D (λ q. d) e) x hx n
      go (inl c) (no d) all = own (done? s (P.activation m))
        where
          D' : ℕ
          D' = remove D m

          h_d' : D' < 2 ^ P.links
          h_d' = remove_in_lem P.links D m hD

          ended' : EndedFrom m D'
          ended' i hi q = ended_below m D' (λ z. absurd ((of_remove D m m z).1 refl)) (λ i hi q. e i hi (of_remove D m i q).0) i hi q

          other : (k : ℕ) → (k ≡ m → ⊥) → Out D' k → Out D k
          other k nk o q = o (in_remove D m k nk q)

          less : lateness r D' + over r m ≤ lateness r D
          less = sum_more (over r) D (remove D m) m P.links c (omega arith) (λ k hk q. of_remove D m k q)

          by : {v : ℕ} → HasLine P T (P.activation m) v (Out D') (Known r s) → t - lateness r D ≤ v + P.least m → Sure T r s D x t
          by a le =
              remove_link P wf T closed m (omega arith) (shorter (all D' h_d' ended' x hx n) (omega (arith, less))) (remove_own P wf T closed m (omega arith) a (λ j k. inl refl) other)
              le (λ o. o c) (λ k hk. other k) (λ j f q. q) (known_joins r s)

          own : Dec (Executed s (P.activation m)) → Sure T r s D x t
          own (yes a) = by (idle.sure D' h_d' (P.activation m) (wf.activation_in m (omega arith)) a) (omega (arith, less, idle.on_way m (omega arith) (record { begun = a; not_ended = d }), r.no_shorter m (omega arith)))
          own (no a) = by (all D' h_d' ended' (P.activation m) (wf.activation_in m (omega arith)) a) (omega (arith, less))

  -- whatever links are left out
  pub spread : (D : ℕ) → D < 2 ^ P.links → (x : ℕ) → x < P.points → (Executed s x → ⊥) → Sure T r s D x t
  spread D hD = letters P.links (le_refl _) D hD (λ i h c. inr h)
