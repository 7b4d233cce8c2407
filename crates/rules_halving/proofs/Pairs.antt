-- The loops over all pairs raise the third run by what the pairs give.
use mathlib.Core.Path.{◌≡◌, refl, sym}
use mathlib.Core.List.{List}
use Prim.Native.Nat.{ℕ, ◌+◌, ◌<◌, min, max}
use lib.Bits.{bit_or, or_lt}
use lib.ListN.{length, get_or, set}
use Rattle.rules.specs.Tables.{raise_cell}
use Rattle.rules.proofs.Raising.{Raises, raises_cell, raises_iff}
use Rattle.rules_fill.specs.Steps.{steps}
use Rattle.rules_fill.proofs.StepLaws.{Some, raises_steps}
use Rattle.rules_halving.specs.Products.{pair_wait, step_of_pair, pair_steps, PairGives, Product, PairsLent}

-- one step, as the code stores it
pub pair_step : (f : ℕ) (G : List ℕ) (from a b v w : ℕ) (H : List ℕ) → v ≡ min f (get_or G (from + b) 0) → w ≡ max (get_or H (bit_or a b) 0) v → set H (bit_or a b) w ≡ step_of_pair f G from a b H
unfolding step_of_pair raise_cell
pair_step f G from a b v w H e q = rw (q, e)

pub pairs_step : (F G : List ℕ) (from n a : ℕ) (H H' : List ℕ) → H' ≡ steps (step_of_pair (get_or F a 0) G from a) n H → H' ≡ pair_steps F G from n a H
unfolding pair_steps
pairs_step F G from n a H H' e = e

-- joined places stay within the run
pub or_in : {n : ℕ} {F G : List ℕ} {from : ℕ} {H : List ℕ} → PairsLent n F G from H → (a b : ℕ) → a < n → b < n → bit_or a b < n
or_in l a b h k = rw l.power_is (or_lt l.power a b (rw (← l.power_is) h) (rw (← l.power_is) k))

module _ (n : ℕ) (F G : List ℕ) (from : ℕ) (inside : (a b : ℕ) → a < n → b < n → bit_or a b < n) where
  abbrev Gives : ℕ → ℕ → ℕ → Type 0
  Gives a c v = Some (λ b d w. (d ≡ bit_or a b) × (w ≡ pair_wait F G from a b)) n c v

  raises_of : (a : ℕ) → a < n → Raises n (Gives a) (pair_steps F G from n a)
  unfolding pair_steps step_of_pair pair_wait
  raises_of a h = raises_steps n _ (step_of_pair (get_or F a 0) G from a) n (λ b k. raises_cell n (bit_or a b) _ (inside a b h k))

  raises_all : Raises n (PairGives n F G from) (steps (pair_steps F G from n) n)
  raises_all = raises_iff n (Some Gives n) (PairGives n F G from) _ to back (raises_steps n Gives (pair_steps F G from n) n raises_of)
    where
      to : (c v : ℕ) → Some Gives n c v → PairGives n F G from c v
      to c v s = record { a = s.index; b = s.holds.index; a_below = s.below; b_below = s.holds.below; joined = sym s.holds.holds.0; wait = s.holds.holds.1 }

      back : (c v : ℕ) → PairGives n F G from c v → Some Gives n c v
      back c v g = record { index = g.a; below = g.a_below; holds = record { index = g.b; below = g.b_below; holds = (sym g.joined, g.wait) } }

  pub all_pairs : (H H' : List ℕ) → length H ≡ n → H' ≡ steps (pair_steps F G from n) n H → Product n F G from H H'
  all_pairs H H' l e = record {
    no_lower = λ c h. rw e (raises_all.no_lower H l c);
    covers = λ a b h k. rw e (raises_all.covers H l (bit_or a b) _ (record { a = a; b = b; a_below = h; b_below = k; joined = refl; wait = refl }));
    reason = λ c h. rw e (raises_all.reason H l c);
  }
