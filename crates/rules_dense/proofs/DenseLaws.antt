-- The part raised by what all pairs of gathered waits give is the part that rules 4 and 6 of a row make.
use mathlib.Core.Path.{◌≡◌, refl, sym, ap, ap₂, subst, ◌∙◌}
use mathlib.Core.Bool.{Bool, true, false, cond, not, ◌&&◌}
use mathlib.Core.Logic.{◌⊎◌, inl, inr}
use mathlib.Core.List.{List}
use Prim.Native.Nat.{ℕ, ◌+◌, ◌*◌, ◌≤◌, ◌<◌, min}
use native.Mathlib.Nat.{le_refl, le_of_eq, min-zero, zero-add, zero-mul}
use native.Mathlib.Decide.{ℕ_discrete}
use native.Mathlib.Omega.{arith}
use lib.Dec.{T as Is}
use lib.Bits.{bit_or}
use lib.ListN.{length, get_or}
use Rattle.rules.proofs.Raising.{Raises, raises_cell}
use Rattle.rules_fill.specs.Steps.{steps}
use Rattle.rules_fill.specs.Shapes.{touches, cleared, is_line, removed, remove_step, remove_one, remove_cell, remove_from, remove_in}
use Rattle.rules_fill.specs.Cells.{AllJoin}
use Rattle.rules_fill.proofs.StepLaws.{Some, raises_when, raises_steps}
use Rattle.rules_fill.proofs.ShapeLaws.{cleared_le}
use Rattle.rules_listed.proofs.Passing.{Outdone, same_raise_at}
use Rattle.rules_halving.specs.Products.{pair_wait, Product, PairGives}
use Rattle.rules_dense.specs.Gathered.{free_place, FreeRun, Filled, other_wait, part_wait, spread_step}
use Rattle.rules_dense.proofs.FreePlaces.{value_of, index_of, value_below, index_below, place_is, free_in, valued_in, free_joined, joined_below, touches_valued, touches_free, cleared_valued, free_line}
use Rattle.rules_dense.proofs.GatherLaws.{Owned, Greatest}

is_so : {b : Bool} → b ≡ true → Is b
is_so e = rw e tt

module _ {low times n : ℕ} (f : FreeRun low times n) (mask : ℕ) (mask_is : mask + low ≡ times * low) (w : ℕ) (width_is : times * n ≡ w) (F : List ℕ) (x other add : ℕ) where
  -- ---- what rules 4 and 6 of the row give
  abbrev RowGives : ℕ → ℕ → Type 0
  RowGives = Some (λ t c k. Is (touches mask t) × Some (λ u c k. (c ≡ bit_or (cleared t mask) u) × (k ≡ removed mask add (get_or F (x * w + t) 0) u (get_or F (other * w + u) 0))) w c k) w

  raises_row : (l : ℕ) → AllJoin w → w ≤ l → Raises l RowGives (remove_in w F other mask add x)
  unfolding remove_in remove_from remove_cell remove_one remove_step
  raises_row l joins long = raises_steps l _ _ w (λ t h. raises_when l _ _ (touches mask t) (λ i. raises_steps l _ _ w (λ u k. raises_cell l _ _ (omega (arith, joins (cleared t mask) u (omega (arith, cleared_le t mask)) k)))))

  -- ---- what the gathered waits give
  abbrev SpreadGives : List ℕ → ℕ → ℕ → Type 0
  SpreadGives G = Some (λ z c k. (c ≡ free_place low times z) × (k ≡ get_or G z 0)) n

  raises_spread : (l : ℕ) (G : List ℕ) → w ≤ l → Raises l (SpreadGives G) (steps (spread_step G low times) n)
  unfolding spread_step
  raises_spread l G long = raises_steps l _ _ n (λ z h. raises_cell l _ _ (omega (arith, free_in f z h)))

  -- the same wait, where the other place has none of the row's bits
  removed_free : (v b : ℕ) → removed mask add v (free_place low times b) (get_or F (other * w + free_place low times b) 0) ≡ min v (other_wait F (other * w) low times add b)
  unfolding removed other_wait
  removed_free v b = go (is_line b (get_or F (other * w + free_place low times b) 0)) (touches mask (free_place low times b)) (free_line f b _) (touches_free f mask mask_is b)
    where
      u : ℕ
      u = get_or F (other * w + free_place low times b) 0

      go : (p q : Bool) → is_line (free_place low times b) u ≡ p → q ≡ false → cond (is_line (free_place low times b) u && not q) (min v (u + add)) 0 ≡ min v (cond p (u + add) 0)
      go true q d e = rw (d, e) refl
      go false q d e = rw d (sym (min-zero v))

  -- nothing, where it has one
  removed_touch : (v u y : ℕ) → touches mask u ≡ true → removed mask add v u y ≡ 0
  unfolding removed
  removed_touch v u y e = go (is_line u y) (touches mask u) e
    where
      go : (p q : Bool) → q ≡ true → cond (p && not q) (min v (y + add)) 0 ≡ 0
      go true q e = rw e refl
      go false q e = refl

  module _ (own others given given' B : List ℕ) (g : Greatest F (x * w) low times n own) (o : Filled (other_wait F (other * w) low times add) n others)
      (p : Filled (part_wait B low times) n given) (made : Product n own others 0 given given') where
    to : (c k : ℕ) → SpreadGives given' c k → Outdone RowGives B c k
    unfolding pair_wait part_wait
    to c k s = why (made.reason z s.below)
      where
        z : ℕ
        z = s.index

        pair : (q : PairGives n own others 0 z (get_or given' z 0)) → (get_or own q.a 0 ≡ 0) ⊎ Owned F (x * w) low times own q.a → Outdone RowGives B c k
        pair q (inl e) = inl (omega (arith, s.holds.1, q.wait, e))
        pair q (inr h) =
            let t : ℕ = h.m * low + free_place low times q.a in
            let u : ℕ = free_place low times q.b in
            let d : c ≡ bit_or (cleared t mask) u = s.holds.0 ∙ ap (free_place low times) (sym q.joined) ∙ sym (free_joined f q.a q.b) ∙ ap (λ (y : ℕ). bit_or y u) (sym (cleared_valued f mask mask_is q.a h.m h.below)) in
            let e : k ≡ removed mask add (get_or F (x * w + t) 0) u (get_or F (other * w + u) 0)
            = s.holds.1 ∙ q.wait ∙ ap₂ min h.wait (ap (λ (y : ℕ). get_or others y 0) (zero-add q.b) ∙ o.at q.b q.b_below) ∙ sym (removed_free (get_or F (x * w + t) 0) q.b) in
            inr (k, le_refl k, record { index = t; below = omega (arith, valued_in f q.a h.m q.a_below h.below); holds = (is_so (touches_valued f mask mask_is q.a h.m h.above_none h.below), record { index = u; below = omega (arith, free_in f q.b q.b_below); holds = (d, e) }) })

        why : (get_or given' z 0 ≡ get_or given z 0) ⊎ PairGives n own others 0 z (get_or given' z 0) → Outdone RowGives B c k
        why (inl e) = inl (le_of_eq (s.holds.1 ∙ e ∙ p.at z s.below ∙ ap (λ (y : ℕ). get_or B y 0) (sym s.holds.0)))
        why (inr q) = pair q (g.reason q.a q.a_below)

    back : (c k : ℕ) → RowGives c k → Outdone (SpreadGives given') B c k
    unfolding pair_wait
    back c k r = go (ℕ_discrete (value_of low times u) 0)
      where
        t : ℕ
        t = r.index

        u : ℕ
        u = r.holds.1.index

        a : ℕ
        a = index_of low times t

        b : ℕ
        b = index_of low times u

        t_is : t ≡ value_of low times t * low + free_place low times a
        t_is = sym (place_is f t)

        t_value : Dec (value_of low times t ≡ 0) → 0 < value_of low times t
        t_value (yes e) = absurd (subst Is (ap (touches mask) (t_is ∙ ap (λ (y : ℕ). y * low + free_place low times a) e ∙ ap (λ (y : ℕ). y + free_place low times a) (zero-mul low) ∙ zero-add (free_place low times a)) ∙ touches_free f mask mask_is a) r.holds.0)
        t_value (no e) = omega (arith, e)

        given_more : u ≡ free_place low times b → k ≤ get_or given' (bit_or a b) 0
        given_more e =
            let b_below : b < n = index_below f u (omega (arith, r.holds.1.below)) in
            let a_below : a < n = index_below f t (omega (arith, r.below)) in
            let h : k ≡ min (get_or F (x * w + t) 0) (other_wait F (other * w) low times add b)
            = r.holds.1.holds.1 ∙ ap (λ (y : ℕ). removed mask add (get_or F (x * w + t) 0) y (get_or F (other * w + y) 0)) e ∙ removed_free (get_or F (x * w + t) 0) b in
            let l : get_or F (x * w + t) 0 ≤ get_or own a 0 = subst (λ (y : ℕ). get_or F (x * w + y) 0 ≤ get_or own a 0) (sym t_is) (g.covers a (value_of low times t) a_below (t_value (ℕ_discrete (value_of low times t) 0)) (value_below f t)) in
            omega (arith, h, l, o.at b b_below, ap (λ (y : ℕ). get_or others y 0) (zero-add b), made.covers a b a_below b_below)

        go : Dec (value_of low times u ≡ 0) → Outdone (SpreadGives given') B c k
        go (yes e) =
            let u_is : u ≡ free_place low times b = sym (place_is f u) ∙ ap (λ (y : ℕ). y * low + free_place low times b) e ∙ ap (λ (y : ℕ). y + free_place low times b) (zero-mul low) ∙ zero-add (free_place low times b) in
            let d : c ≡ free_place low times (bit_or a b) = r.holds.1.holds.0 ∙ ap₂ bit_or (ap (λ (y : ℕ). cleared y mask) t_is ∙ cleared_valued f mask mask_is a (value_of low times t) (value_below f t)) u_is ∙ free_joined f a b in
            inr (get_or given' (bit_or a b) 0, given_more u_is, record { index = bit_or a b; below = joined_below f a b (index_below f t (omega (arith, r.below))) (index_below f u (omega (arith, r.holds.1.below))); holds = (d, refl) })
        go (no e) =
            let h : touches mask u ≡ true = ap (touches mask) (sym (place_is f u)) ∙ touches_valued f mask mask_is b (value_of low times u) (omega (arith, e)) (value_below f u) in
            inl (omega (arith, r.holds.1.holds.1, removed_touch (get_or F (x * w + t) 0) u (get_or F (other * w + u) 0) h))

    pub spread_all : AllJoin w → w ≤ length B → steps (spread_step given' low times) n B ≡ remove_in w F other mask add x B
    spread_all joins long = same_raise_at (length B) (SpreadGives given') RowGives (steps (spread_step given' low times) n) (remove_in w F other mask add x) (raises_spread (length B) given' long) (raises_row (length B) joins long) B refl to back
