-- Folds over rows and over the points of a set: that their closures may be called, and what they give.
use mathlib.Core.Path.{◌≡◌, sym, ap, subst, ◌∙◌}
use mathlib.Core.List.{List, [], ◌∷◌}
use Prim.Native.Nat.{ℕ, zero, suc, ◌^◌, ◌≤◌, ◌<◌}
use native.Mathlib.Numerals.{add-one}
use native.Mathlib.Omega.{arith}
use denote.Param.Members.{Mut}
use lib.Bits.{bit_or}
use lib.ListN.{length, get_or}
use Rattle.std.specs.declared.ops.Range.{Range}
use Rattle.std.specs.Prelude.{Option, None, Some}
use Rattle.std.specs.Fn.{Called}
use Rattle.std.specs.Iterator.{Yields, Drains, FoldTurn, CallableAtEachTurn}
use Rattle.std.specs.List.{FoldsTo, fold, range_with_len}
use Rattle.std.proofs.iter.Yields.{nat_range_steps}
use Rattle.plan.proofs.Chains.{fold_more}
use Rattle.rounds_points.specs.declared.sets.Points.{Points}
use Rattle.rounds_points.specs.PointSets.{In, Sets, TakesPoint}
use Rattle.rounds_points.proofs.PointSets.{in_whole}
use Rattle.rounds_points.proofs.Gathering.{Has, has_none, has_more, Found, found_none, found_all, lowest_below, found_more}

passed : (xs : List ℕ) (s t : Range ℕ) → Yields nat_range_steps s xs t → (t.end ≡ s.end) × (s.start ≤ t.start)
passed [] s t e = subst (λ (r : Range ℕ). (r.end ≡ s.end) × (s.start ≤ r.start)) e (λ i. s.end, omega arith)
passed (x ∷ xs) s t y = let r = passed xs y.0 t y.2 in (r.0 ∙ y.1.0, omega (arith, r.1, y.1.1.2))

-- ---- a closure that no call changes
module _ {F C : Type 0} {g : Mut F (C × (ℕ × Unit {0})) C} (stays : (f : F) (a : C) (x : ℕ) (b : C) (f' : F) → Called g f (a, (x, tt)) b f' → f' ≡ f) where
  unchanged : (xs : List ℕ) (p q : F × C) → FoldsTo (FoldTurn g) p xs q → q.0 ≡ p.0
  unchanged [] p q e = ap (λ r. r.0) (sym e)
  unchanged (x ∷ xs) p q k = unchanged xs k.0 q k.2 ∙ stays p.0 p.1 x k.0.1 k.0.0 k.1

  module _ {Q : F × C → ℕ → Type 0} (f : F) (a : C) where
    -- over the numbers below m
    pub serves_below : (m : ℕ) → ((b : C) (x : ℕ) → x < m → Q (f, b) x) → CallableAtEachTurn nat_range_steps (FoldTurn g) Q (record { start = 0; end = m }) (f, a)
    serves_below m h = record {
      at = λ xs t q x u y k l. let w = passed xs (record { start = 0; end = m }) t y in subst (λ (j : F). Q (j, q.1) x) (sym (unchanged xs (f, a) q k)) (h q.1 x (omega (arith, w.0, l.1.0, l.1.1)));
    }

    -- over the points of a set
    pub serves_points : (steps : Points → Option ℕ → Points → Type 0) → ((s : Points) (r : Option ℕ) (t : Points) → steps s r t → TakesPoint s.left r t.left) → (s : Points) → ((b : C) (x : ℕ) → In s.left x → Q (f, b) x) → CallableAtEachTurn steps (FoldTurn g) Q s (f, a)
    serves_points steps takes s h = record {
      at = λ xs t q x u y k l. subst (λ (j : F). Q (j, q.1) x) (sym (unchanged xs (f, a) q k)) (h q.1 x (of_set xs s t y x (takes t (Some x) u l).0));
    }
      where
        of_set : (xs : List ℕ) (s t : Points) → Yields steps s xs t → (x : ℕ) → In t.left x → In s.left x
        of_set [] s t e x i = subst (λ (r : Points). In r.left x) (sym e) i
        of_set (z ∷ xs) s t y x i = in_whole s.left z x (subst (λ (r : ℕ). In r x) (takes s (Some z) y.0 y.1).2 (of_set xs y.0 t y.2 x i))

-- ---- a point of each row
module _ (f : ℕ → ℕ) where
  abbrev pub with_point : ℕ → ℕ → ℕ
  with_point set i = bit_or set (2 ^ f i)

  pub has_fold : (m a : ℕ) → Has f m (fold with_point a (range_with_len 0 m))
  has_fold zero a = has_none f a
  has_fold (suc m) a = rw (fold_more with_point a m, ← (add-one m)) (has_more f m (fold with_point a (range_with_len 0 m)) (f m) (2 ^ f m) (λ i. f m) (λ i. 2 ^ f m) (has_fold m a))

-- ---- the dependents of each point
module _ {F : Type 0} {g : Mut F (ℕ × (ℕ × Unit {0})) ℕ} (steps : Points → Option ℕ → Points → Type 0) (takes : (s : Points) (r : Option ℕ) (t : Points) → steps s r t → TakesPoint s.left r t.left)
    (sets : List ℕ) (n changed : ℕ) (are : Sets n sets) (f : F) (calls : (a y b : ℕ) (f' : F) → y < length sets → Called g f (a, (y, tt)) b f' → (f' ≡ f) × (b ≡ bit_or a (get_or sets y 0))) where
  found_on : (xs : List ℕ) (s t : Points) → Yields steps s xs t → (p q : F × ℕ) → p.0 ≡ f → FoldsTo (FoldTurn g) p xs q → Found sets n changed s.left p.1 → Found sets n changed t.left q.1
  found_on [] s t e p q o d h = subst (λ (r : Points). Found sets n changed r.left q.1) e (subst (λ (r : F × ℕ). Found sets n changed s.left r.1) d h)
  found_on (y ∷ xs) s t k p q o d h =
      let step = takes s (Some y) k.0 k.1 in
      let inside = (lowest_below sets n changed are s.left p.1 h y step.0).1 in
      let call = calls p.1 y d.0.1 d.0.0 inside (subst (λ (e : F). Called g e (p.1, (y, tt)) d.0.1 d.0.0) o d.1) in
      found_on xs k.0 t k.2 d.0 q call.0 d.2 (rw call.1 (found_more sets n changed are s.left p.1 h y step.0 k.0.left step.2 step.3))

  pub found_fold : changed < 2 ^ n → (s : Points) → s.left ≡ changed → (r : ℕ) → ((xs : List ℕ) × (f' : F) × Drains steps s xs × FoldsTo {P = F × ℕ} (FoldTurn g) (f, 0) xs (f', r)) → (r < 2 ^ n) × ((y x : ℕ) → y < n → In changed y → In (get_or sets y 0) x → In r x)
  found_fold below s e r ran =
      let d = ran.2 in
      found_all sets n changed _ r (takes d.1.0 None d.0 d.1.2).0 (found_on ran.0 s d.1.0 d.1.1 (f, 0) (ran.1, r) (λ i. f) ran.3 (rw e (found_none sets n changed below)))
