-- Three halves cover four. A place's highest bit says its half, and a joined place lies in the lower half only if both places do. So pairs of two lower halves give to
-- the lower half, all others to the upper one; there the upper half of the first run meets both halves of the second, and of two waits the greater gives what both give.
use mathlib.Core.Path.{◌≡◌, refl, sym, ap, ◌∙◌}
use mathlib.Core.Logic.{◌⊎◌, inl, inr}
use mathlib.Core.List.{List, ◌++◌}
use Prim.Native.Nat.{ℕ, ◌+◌, ◌-◌, ◌*◌, ◌^◌, ◌≤◌, ◌<◌, max}
use native.Mathlib.Nat.{one-mul, zero-mul, zero-add}
use native.Mathlib.Decide.{dec_le}
use native.Mathlib.Omega.{arith}
use lib.Bits.{bit_or, or_lt, or_block}
use lib.ListN.{length, get_or, take, drop, get_or-append}
use lib.Seq.{get_or-take, get_or-drop, get_or-append-add}
use Rattle.rules_halving.specs.Products.{pair_wait, PairGives, Product}

-- ---- joined places, by halves of z places each
module _ (p : ℕ) (z a b : ℕ) (z_is : z ≡ 2 ^ p) (h : a < z) (k : b < z) where
  blocks : (i j : ℕ) → bit_or (i * 2 ^ p + a) (j * 2 ^ p + b) ≡ bit_or i j * 2 ^ p + bit_or a b
  blocks i j = or_block p i j a b (rw (← z_is) h) (rw (← z_is) k)

  pub or_low : bit_or a b < z
  or_low = rw z_is (or_lt p a b (rw (← z_is) h) (rw (← z_is) k))

  pub or_mixed : bit_or a (z + b) ≡ z + bit_or a b
  or_mixed = rw z_is (simp (zero-mul, one-mul, zero-add) at (blocks 0 1))

  pub or_mixed' : bit_or (z + a) b ≡ z + bit_or a b
  or_mixed' = rw z_is (simp (zero-mul, one-mul, zero-add) at (blocks 1 0))

  pub or_high : bit_or (z + a) (z + b) ≡ z + bit_or a b
  or_high = rw z_is (simp one-mul at (blocks 1 1))

-- the half in which a place lies
abbrev Side : ℕ → ℕ → Type 0
Side z c = (c < z) ⊎ ((d : ℕ) × (d < z) × (c ≡ z + d))

side : (z c : ℕ) → c < z + z → Side z c
side z c h = go (dec_le z c)
  where
    go : Dec (z ≤ c) → Side z c
    go (yes k) = inr (c - z, omega arith, omega arith)
    go (no k) = inl (omega arith)

-- L, U and U' are the lower half, and the upper half after the second and the third call
module _ (p z from top : ℕ) (F G G₁ G₃ H L U U' : List ℕ) (z_is : z ≡ 2 ^ p) (long : length L ≡ z)
    (kept : (i : ℕ) → i < z → get_or G₁ (from + z + i) 0 ≡ get_or G (from + (z + i)) 0)
    (greater : (i : ℕ) → i < z → get_or G₃ (top + i) 0 ≡ max (get_or G (from + i) 0) (get_or G (from + (z + i)) 0))
    (low : Product z (take z F) G from (take z H) L) (mixed : Product z (take z F) G₁ (from + z) (drop z H) U) (high : Product z (drop z F) G₃ top U U') where
  -- what the pairs of the halves give, as pairs of the whole runs
  wait_low : (a b : ℕ) → a < z → pair_wait (take z F) G from a b ≡ pair_wait F G from a b
  unfolding pair_wait
  wait_low a b h = rw (get_or-take z F a 0 h)

  wait_mixed : (a b : ℕ) → a < z → b < z → pair_wait (take z F) G₁ (from + z) a b ≡ pair_wait F G from a (z + b)
  unfolding pair_wait
  wait_mixed a b h k = rw (get_or-take z F a 0 h, kept b k)

  wait_high : (a b : ℕ) → b < z → pair_wait (drop z F) G₃ top a b ≡ max (pair_wait F G from (z + a) b) (pair_wait F G from (z + a) (z + b))
  unfolding pair_wait
  wait_high a b k = omega (arith, get_or-drop z F a 0, greater b k)

  made_low : (c : ℕ) → c < z → get_or (L ++ U') c 0 ≡ get_or L c 0
  made_low c h = get_or-append L U' 0 c (rw long h)

  made_high : (c : ℕ) → get_or (L ++ U') (z + c) 0 ≡ get_or U' c 0
  made_high c = ap (λ (k : ℕ). get_or (L ++ U') (k + c) 0) (sym long) ∙ get_or-append-add L U' c 0

  no_lower : (c : ℕ) → Side z c → get_or H c 0 ≤ get_or (L ++ U') c 0
  no_lower c (inl h) = omega (arith, made_low c h, get_or-take z H c 0 h, low.no_lower c h)
  no_lower c (inr (d, h, e)) = rw e (omega (arith, made_high d, get_or-drop z H d 0, mixed.no_lower d h, high.no_lower d h))

  covers : (a b : ℕ) → Side z a → Side z b → pair_wait F G from a b ≤ get_or (L ++ U') (bit_or a b) 0
  covers a b (inl h) (inl k) = omega (arith, made_low (bit_or a b) (or_low p z a b z_is h k), wait_low a b h, low.covers a b h k)
  covers a b (inl h) (inr (y, k, e)) =
      rw (e, or_mixed p z a y z_is h k) (omega (arith, made_high (bit_or a y), wait_mixed a y h k, mixed.covers a y h k, high.no_lower (bit_or a y) (or_low p z a y z_is h k)))
  covers a b (inr (x, h, e)) (inl k) = rw (e, or_mixed' p z x b z_is h k) (omega (arith, made_high (bit_or x b), wait_high x b k, high.covers x b h k))
  covers a b (inr (x, h, e)) (inr (y, k, q)) = rw (e, q, or_high p z x y z_is h k) (omega (arith, made_high (bit_or x y), wait_high x y k, high.covers x y h k))

  -- of two waits the greater is one of them
  from_high : (d v : ℕ) (g : PairGives z (drop z F) G₃ top d v) → Dec (pair_wait F G from (z + g.a) (z + g.b) ≤ pair_wait F G from (z + g.a) g.b) → PairGives (z + z) F G from (z + d) v
  from_high d v g (yes l) = record { a = z + g.a; b = g.b; a_below = omega (arith, g.a_below); b_below = omega (arith, g.b_below); joined = or_mixed' p z g.a g.b z_is g.a_below g.b_below ∙ ap (λ (k : ℕ). z + k) g.joined; wait = omega (arith, g.wait, wait_high g.a g.b g.b_below) }
  from_high d v g (no l) = record { a = z + g.a; b = z + g.b; a_below = omega (arith, g.a_below); b_below = omega (arith, g.b_below); joined = or_high p z g.a g.b z_is g.a_below g.b_below ∙ ap (λ (k : ℕ). z + k) g.joined; wait = omega (arith, g.wait, wait_high g.a g.b g.b_below) }

  from_mixed : (d v : ℕ) → PairGives z (take z F) G₁ (from + z) d v → PairGives (z + z) F G from (z + d) v
  from_mixed d v g = record { a = g.a; b = z + g.b; a_below = omega (arith, g.a_below); b_below = omega (arith, g.b_below); joined = or_mixed p z g.a g.b z_is g.a_below g.b_below ∙ ap (λ (k : ℕ). z + k) g.joined; wait = g.wait ∙ wait_mixed g.a g.b g.a_below g.b_below }

  from_low : (c v : ℕ) → PairGives z (take z F) G from c v → PairGives (z + z) F G from c v
  from_low c v g = record { a = g.a; b = g.b; a_below = omega (arith, g.a_below); b_below = omega (arith, g.b_below); joined = g.joined; wait = g.wait ∙ wait_low g.a g.b g.a_below }

  abbrev Reason : ℕ → ℕ → Type 0
  Reason c v = (v ≡ get_or H c 0) ⊎ PairGives (z + z) F G from c v

  reason_low : (c : ℕ) → c < z → (get_or L c 0 ≡ get_or (take z H) c 0) ⊎ PairGives z (take z F) G from c (get_or L c 0) → Reason c (get_or L c 0)
  reason_low c h (inl e) = inl (e ∙ get_or-take z H c 0 h)
  reason_low c h (inr g) = inr (from_low c _ g)

  reason_mixed : (d : ℕ) → (get_or U d 0 ≡ get_or (drop z H) d 0) ⊎ PairGives z (take z F) G₁ (from + z) d (get_or U d 0) → Reason (z + d) (get_or U d 0)
  reason_mixed d (inl e) = inl (e ∙ get_or-drop z H d 0)
  reason_mixed d (inr g) = inr (from_mixed d _ g)

  reason_high : (d : ℕ) → d < z → (get_or U' d 0 ≡ get_or U d 0) ⊎ PairGives z (drop z F) G₃ top d (get_or U' d 0) → Reason (z + d) (get_or U' d 0)
  reason_high d h (inl e) = rw e (reason_mixed d (mixed.reason d h))
  reason_high d h (inr g) = inr (from_high d _ g (dec_le _ _))

  reason : (c : ℕ) → Side z c → Reason c (get_or (L ++ U') c 0)
  reason c (inl h) = rw (made_low c h) (reason_low c h (low.reason c h))
  reason c (inr (d, h, e)) = rw (e, made_high d) (reason_high d h (high.reason d h))

  pub three_halves : Product (z + z) F G from H (L ++ U')
  three_halves = record { no_lower = λ c h. no_lower c (side z c h); covers = λ a b h k. covers a b (side z a h) (side z b k); reason = λ c h. reason c (side z c h) }

-- where no pair gives more than any place has, the run stays as it is
pub all_covered : (n : ℕ) (F G : List ℕ) (from : ℕ) (H : List ℕ) → ((a b : ℕ) → a < n → b < n → bit_or a b < n) → ((a b c : ℕ) → a < n → b < n → c < n → pair_wait F G from a b ≤ get_or H c 0) → Product n F G from H H
all_covered n F G from H inside few = record { no_lower = λ c h. omega arith; covers = λ a b h k. few a b (bit_or a b) h k (inside a b h k); reason = λ c h. inl refl }
