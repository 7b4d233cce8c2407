-- A panel for some durations is one for fewer, so that where there is none for the least and the most alone there is none for more.
use mathlib.Core.Bool.{Bool}
use Prim.Native.Nat.{ℕ, ◌<◌}
use Rattle.plan.specs.Plan.{Plan}
use Rattle.rules_panel.specs.Dramas.{Durations, AnyDuration, LeastOrMost, Drama}
use Rattle.rules_panel.specs.Strategies.{Strategy, Observed, Ended, Panel, NoPanel}

module _ {P : Plan} {E F : Durations} (fewer : (i n : ℕ) → i < P.links → F i n → E i n) where
  wider : Drama P F → Drama P E
  wider r = record { scenario = r.scenario; situation = r.situation; no_shorter = r.no_shorter; no_longer = r.no_longer; looked_at = λ i h. fewer i (r.situation i) h (r.looked_at i h) }

  pub for_fewer : {q : ℕ} → Panel q P E → Panel q P F
  unfolding wider
  for_fewer p = record {
    strategy = narrow;
    viable = record { first_at_start = λ r. p.viable.first_at_start (wider r); keeps_edge = λ r. p.viable.keeps_edge (wider r); keeps_link = λ r. p.viable.keeps_link (wider r) };
    dynamic = record {
      reacts = λ r u x h n s. let c = p.dynamic.reacts (wider r) (wider u) x h n (record {
        observed = λ j b. (λ o. of_narrow u j b ((s.observed j b).0 (to_narrow r j b o)), λ o. of_narrow r j b ((s.observed j b).1 (to_narrow u j b o)));
        ended = λ i k. (λ o. of_narrow' u i k ((s.ended i k).0 (to_narrow' r i k o)), λ o. of_narrow' r i k ((s.ended i k).1 (to_narrow' u i k o)));
      }) in record { same_time = c.same_time; same_position = c.same_position };
    };
  }
    where
      σ : Strategy P E
      σ = p.strategy

      narrow : Strategy P F
      narrow = record {
        time = λ r. σ.time (wider r);
        position = λ r. σ.position (wider r);
        end_first = λ r. σ.end_first (wider r);
        observing_from = λ r. σ.observing_from (wider r);
        observing_to = λ r. σ.observing_to (wider r);
        distinct = λ r. σ.distinct (wider r);
        other_last = λ r. σ.other_last (wider r);
      }

      -- the same history, of either strategy
      to_narrow : {t d : ℕ} (r : Drama P F) (j : ℕ) (b : Bool) → Observed σ t d (wider r) j b → Observed narrow t d r j b
      to_narrow r j b o = record { proposition = o.proposition; by_then = o.by_then; before = o.before; value = o.value }

      of_narrow : {t d : ℕ} (r : Drama P F) (j : ℕ) (b : Bool) → Observed narrow t d r j b → Observed σ t d (wider r) j b
      of_narrow r j b o = record { proposition = o.proposition; by_then = o.by_then; before = o.before; value = o.value }

      to_narrow' : {t : ℕ} (r : Drama P F) (i k : ℕ) → Ended σ t (wider r) i k → Ended narrow t r i k
      to_narrow' r i k o = record { link = o.link; by_then = o.by_then; took = o.took }

      of_narrow' : {t : ℕ} (r : Drama P F) (i k : ℕ) → Ended narrow t r i k → Ended σ t (wider r) i k
      of_narrow' r i k o = record { link = o.link; by_then = o.by_then; took = o.took }

-- whatever durations are looked at, as long as each link's least and most are among them
pub none_for_more : {P : Plan} {E : Durations} → ((i n : ℕ) → i < P.links → LeastOrMost P i n → E i n) → NoPanel P → (q : ℕ) → 0 < q → Panel q P E → ⊥
none_for_more more no_panel q some panel = no_panel.none q some (for_fewer more panel)

pub none_for_any : {P : Plan} → NoPanel P → (q : ℕ) → 0 < q → Panel q P AnyDuration → ⊥
none_for_any = none_for_more (λ i n h e. tt)
