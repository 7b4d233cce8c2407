-- Laws of the room in which pairs are made: new room, the same room later, and the parts of it that are lent.
use mathlib.Core.Path.{◌≡◌, sym, ap, subst, ◌∙◌}
use mathlib.Core.Logic.{◌⊎◌, inl, inr}
use mathlib.Core.List.{List, ◌++◌}
use Prim.Native.Nat.{ℕ, ◌+◌, ◌≤◌, ◌<◌, min}
use native.Mathlib.Omega.{arith}
use lib.Bits.{bit_or, or_lt}
use lib.ListN.{length, get_or, take, drop, replicate, length-replicate, get_or-replicate, get_or-append}
use lib.Seq.{length-take-le, get_or-take}
use Rattle.rules_halving.specs.Products.{pair_wait, PairGives, Product, HalveLent}
use Rattle.rules_dense.specs.Gathered.{FreeRun, Room, NoWaits}

-- ---- new room, of k entries that are 0, and of m for two halves
pub new_room : {low times n : ℕ} (k m : ℕ) → FreeRun low times n → n ≤ k → k + k ≤ m → Room n (replicate k 0) (replicate m 0) (replicate k 0)
new_room {n = n} k m f h l = record { power = f.above + f.below; power_is = f.count_is; long_own = omega (arith, length-replicate {A = ℕ} k 0); long_others = omega (arith, length-replicate {A = ℕ} m 0); long_given = omega (arith, length-replicate {A = ℕ} k 0) }

pub no_waits : {n : ℕ} (k : ℕ) → n ≤ k → NoWaits n (replicate k 0)
no_waits k h z j = get_or-replicate k z 0 0 (omega arith)

-- ---- the same room later
pub same_room : {n : ℕ} (A B C A' B' C' : List ℕ) → Room n A B C → length A' ≡ length A → length B' ≡ length B → length C' ≡ length C → Room n A' B' C'
same_room A B C A' B' C' r a b c = record { power = r.power; power_is = r.power_is; long_own = omega (arith, r.long_own); long_others = omega (arith, r.long_others); long_given = omega (arith, r.long_given) }

-- ---- its first n entries are lent
module _ {n : ℕ} (own others given : List ℕ) (r : Room n own others given) where
  pub halve_lent : HalveLent n (take n own) others 0 (take n given) n
  halve_lent = record { pairs = record { power = r.power; power_is = r.power_is; long_first = length-take-le n own r.long_own; long_second = omega (arith, r.long_others); long_third = length-take-le n given r.long_given }; below_top = omega arith; room = r.long_others }

  same_pair : (a b : ℕ) → a < n → pair_wait (take n own) others 0 a b ≡ pair_wait own others 0 a b
  unfolding pair_wait
  same_pair a b h = ap (λ (v : ℕ). min v (get_or others (0 + b) 0)) (get_or-take n own a 0 h)

  pub product_whole : (H : List ℕ) → length H ≡ length (take n given) → Product n (take n own) others 0 (take n given) H → Product n own others 0 given (H ++ drop n given)
  product_whole H l p = record { no_lower = λ c h. omega (arith, p.no_lower c h, at c h, was c h); covers = covers; reason = λ c h. reason c h (p.reason c h) }
    where
      long : length H ≡ n
      long = l ∙ length-take-le n given r.long_given

      at : (c : ℕ) → c < n → get_or (H ++ drop n given) c 0 ≡ get_or H c 0
      at c h = get_or-append H (drop n given) 0 c (omega (arith, long, h))

      was : (c : ℕ) → c < n → get_or (take n given) c 0 ≡ get_or given c 0
      was c h = get_or-take n given c 0 h

      covers : (a b : ℕ) → a < n → b < n → pair_wait own others 0 a b ≤ get_or (H ++ drop n given) (bit_or a b) 0
      covers a b h k =
          let j : bit_or a b < n = subst (λ (m : ℕ). bit_or a b < m) (sym r.power_is) (or_lt r.power a b (omega (arith, r.power_is)) (omega (arith, r.power_is))) in
          omega (arith, same_pair a b h, p.covers a b h k, at (bit_or a b) j)

      reason : (c : ℕ) → c < n → (get_or H c 0 ≡ get_or (take n given) c 0) ⊎ PairGives n (take n own) others 0 c (get_or H c 0) → (get_or (H ++ drop n given) c 0 ≡ get_or given c 0) ⊎ PairGives n own others 0 c (get_or (H ++ drop n given) c 0)
      reason c h (inl e) = inl (at c h ∙ e ∙ was c h)
      reason c h (inr g) = inr (record { a = g.a; b = g.b; a_below = g.a_below; b_below = g.b_below; joined = g.joined; wait = at c h ∙ g.wait ∙ same_pair g.a g.b g.a_below })
