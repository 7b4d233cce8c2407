-- The tests of the rule, in a drama: what it is for a point to go by a set of links, and what holds back one that does not.
use mathlib.Core.Path.{◌≡◌, refl, sym, ap, ◌∙◌}
use mathlib.Core.Bool.{Bool, false, not, ◌&&◌}
use mathlib.Core.Logic.{◌⊎◌, inl, inr}
use mathlib.Core.List.{List}
use Prim.Native.Nat.{ℕ, suc, ◌+◌, ◌^◌, ◌≤◌, ◌<◌}
use native.Mathlib.Decide.{dec_le}
use native.Mathlib.Omega.{arith}
use lib.Dec.{T as Is, leb, T_not, not_T, ltb→lt, lt→ltb, leb→le, le→leb}
use lib.Ieee.Fits.{and_l, and_r, and_i}
use Rattle.plan.specs.LinkSet.{contains}
use Rattle.plan.specs.Plan.{Plan}
use Rattle.plan.specs.Refusal.{every}
use Rattle.plan.proofs.Ranges.{every_at, every_of}
use Rattle.plan.proofs.Truth.{is?, not_none, if_asked, asked}
use Rattle.rules.specs.declared.Line.{Line}
use Rattle.rules.proofs.Deriving.{no_wait}
use Rattle.rules_panel.specs.Dramas.{AnyDuration, Drama}
use Rattle.rules_follow.specs.Following.{State, learnt, agrees, overrun, late, ended, disjoint, wait_of, holds_back, goes_by}
use Rattle.rules_follow.proofs.Searching.{every_fails}
use Rattle.rules_follow.proofs.Lateness.{Out, sum_same, over, lateness}
use Rattle.rules_follow.proofs.TableLines.{Held, HasLine, start}
use Rattle.rules_follow.proofs.Stepping.{Executed, Running}
use Rattle.rules_follow.proofs.KnownDigits.{TrueDigit, true_agrees, agrees_digits}
use Rattle.rules_follow.proofs.Spreading.{AllEnded, HeldUntil}

module _ {P : Plan} (r : Drama P AnyDuration) where
  -- an end that has come is on time, after the activation; one that has not is not overdue
  pub record LinkIn (s : State) (i : ℕ) : Type 0 where
    pub begun : Executed s (P.finish i) → Executed s (P.activation i)
    pub on_time : Executed s (P.finish i) → s.time (P.finish i) ≡ s.time (P.activation i) + r.situation i
    pub on_way : Running P s i → s.now ≤ s.time (P.activation i) + r.situation i

module _ {P : Plan} (T : List ℕ) (r : Drama P AnyDuration) (s : State) (links : (i : ℕ) → i < P.links → LinkIn r s i) where
  -- ---- what was seen of the lateness of links that have ended is what the drama has
  late_is : (D : ℕ) → AllEnded P s D → late P s D ≡ lateness r D
  late_is D all = sum_same (overrun P s) (over r) D P.links (λ i h c. omega (arith, (links i h).on_time (all i h c)))

  -- ---- the tests of the rule, in the drama
  of_ended : (D : ℕ) → Is (ended P s D) → AllEnded P s D
  unfolding ended
  of_ended D t i h c = ltb→lt 0 _ (if_asked (contains D i) _ (every_at _ P.links i t h) c)

  to_ended : (D : ℕ) → AllEnded P s D → Is (ended P s D)
  unfolding ended
  to_ended D all = every_of _ P.links (λ i h. asked (contains D i) _ (λ c. lt→ltb 0 _ (all i h c)))

  of_disjoint : (D set : ℕ) → Is (disjoint P D set) → (i : ℕ) → i < P.links → Is (contains set i) → Out D i
  unfolding disjoint
  of_disjoint D set t i h c o = T_not (contains D i && contains set i) (every_at _ P.links i t h) (and_i (contains D i) (contains set i) o c)

  to_disjoint : (D set : ℕ) → ((i : ℕ) → i < P.links → Is (contains set i) → Out D i) → Is (disjoint P D set)
  unfolding disjoint
  to_disjoint D set out = every_of _ P.links (λ i h. not_T (contains D i && contains set i) (λ t. out i h (and_r (contains D i) (contains set i) t) (and_l (contains D i) (contains set i) t)))

  abbrev answers : ℕ → ℕ
  answers = learnt P r.scenario s

  -- a point that goes by D: every true line without a link of D has run out, late(D) ago
  pub goes_bound : (x D : ℕ) → Is (goes_by P T s answers x D) → (w : ℕ) → HasLine P T x w (Out D) (TrueDigit r) → w + lateness r D ≤ s.now
  unfolding goes_by holds_back
  goes_bound x D t w a = go a.held (dec_le (w + lateness r D) s.now)
    where
      all : AllEnded P s D
      all = of_ended D (search (and_l, and_r))

      small : late P s D ≤ s.now
      small = leb→le (late P s D) s.now (search (and_l, and_r))

      l : Line
      l = a.line

      free : l.set < 2 ^ P.links → l.label < 4 ^ P.propositions → Is (holds_back P T s answers x D l.set l.label) → ⊥
      free hs hl = T_not (holds_back P T s answers x D l.set l.label) (every_at _ (4 ^ P.propositions) l.label (every_at _ (2 ^ P.links) l.set (and_r (ended P s D && leb (late P s D) s.now) _ t) hs) hl)

      go : Held P T l → Dec (w + lateness r D ≤ s.now) → w + lateness r D ≤ s.now
      go (inl q) d = omega (arith, a.waits, no_wait q, small, late_is D all)
      go (inr q) (yes d) = d
      go (inr q) (no d) =
          let e : wait_of P T x l.set l.label ≡ l.wait = ap (λ (y : ℕ). wait_of P T y l.set l.label) (sym a.at) ∙ q.holds in
          let waits : s.now < wait_of P T x l.set l.label + late P s D = omega (arith, e, a.waits, late_is D all) in
          let counts = and_i (agrees P answers l.label) _ (true_agrees r s l.label a.digits) (to_disjoint D l.set a.links) in
          absurd (free q.inside.set_in q.inside.label_in (and_i (agrees P answers l.label && disjoint P D l.set) _ counts (lt→ltb s.now (wait_of P T x l.set l.label + late P s D) waits)))

  -- one that does not is held back
  pub held_back : (x D : ℕ) → x < P.points → AllEnded P s D → (Is (goes_by P T s answers x D) → ⊥) → HeldUntil T r s D x (suc s.now)
  unfolding goes_by holds_back
  held_back x D hx all n = go (dec_le (late P s D) s.now)
    where
      free : ℕ → ℕ → Bool
      free set label = not (holds_back P T s answers x D set label)

      line_of : late P s D ≤ s.now → (set label : ℕ) → set < 2 ^ P.links → label < 4 ^ P.propositions → Is (holds_back P T s answers x D set label) → HeldUntil T r s D x (suc s.now)
      line_of small set label hs hl t =
          let waits : s.now < wait_of P T x set label + late P s D = ltb→lt s.now (wait_of P T x set label + late P s D) (and_r (agrees P answers label && disjoint P D set) _ t) in
          let both = and_l (agrees P answers label && disjoint P D set) _ t in
          record {
            line = record { point = x; set = set; label = label; wait = wait_of P T x set label };
            held = inr (record { inside = record { point_in = hx; set_in = hs; label_in = hl }; above = omega (arith, waits, small); holds = refl });
            at = refl;
            waits = omega (arith, waits, late_is D all);
            links = of_disjoint D set (and_r (agrees P answers label) _ both);
            digits = agrees_digits r s label (and_l (agrees P answers label) _ both);
          }

      go : Dec (late P s D ≤ s.now) → HeldUntil T r s D x (suc s.now)
      go (no q) = start x hx (λ j k. inl (inl refl)) (omega (arith, late_is D all))
      go (yes q) = pick (is? (every (λ set. every (free set) (4 ^ P.propositions)) (2 ^ P.links)))
        where
          pick : Is (every (λ set. every (free set) (4 ^ P.propositions)) (2 ^ P.links)) ⊎ (every (λ set. every (free set) (4 ^ P.propositions)) (2 ^ P.links) ≡ false) → HeldUntil T r s D x (suc s.now)
          pick (inl t) = absurd (n (and_i (ended P s D && leb (late P s D) s.now) _ (and_i (ended P s D) _ (to_ended D all) (le→leb _ _ q)) t))
          pick (inr e) =
              let a = every_fails (λ set. every (free set) (4 ^ P.propositions)) (2 ^ P.links) e in
              let b = every_fails (free a.number) (4 ^ P.propositions) a.holds in
              line_of q a.number b.number a.under b.under (not_none (holds_back P T s answers x D a.number b.number) b.holds)
