-- Points gathered into a set: a point of each row passed, and the dependents of a set's points, which are taken out one after another.
use mathlib.Core.Path.{◌≡◌}
use mathlib.Core.List.{List}
use mathlib.Core.Logic.{◌⊎◌, inl, inr}
use Prim.Native.Nat.{ℕ, ◌+◌, ◌^◌, ◌<◌}
use native.Mathlib.Decide.{ℕ_discrete}
use native.Mathlib.Omega.{arith}
use lib.Bits.{bit_or}
use lib.ListN.{length, get_or}
use lib.Pow.{pow_pos, pow_mono}
use borrow.Author.Count.{below_none, below_more}
use Rattle.plan.specs.LinkSet.{remove}
use Rattle.plan.specs.Plan.{Plan}
use Rattle.rounds_points.specs.PointSets.{In, Sets, Givers, LinedOf, Concerned}
use Rattle.rounds_points.proofs.PointSets.{none_in, point_below, own_bit, in_left, in_right, union_below, in_rest}

-- ---- the points of the rows passed
module _ (f : ℕ → ℕ) where
  pub record Has (m set : ℕ) : Type 0 where
    pub row_in : (i : ℕ) → i < m → In set (f i)

  pub has_none : (set : ℕ) → Has 0 set
  has_none set = record { row_in = below_none (λ i. In set (f i)) }

  pub has_more : (m set x b : ℕ) → x ≡ f m → b ≡ 2 ^ x → Has m set → Has (m + 1) (bit_or set b)
  has_more m set x b e k h = record { row_in = below_more (λ i. In (bit_or set b) (f i)) m (λ i l. in_left set b (f i) (h.row_in i l)) (in_right set b (f m) (rw (k, e) (own_bit (f m)))) }

  pub has_all : (m n set : ℕ) → m ≡ n → Has m set → (i : ℕ) → i < n → In set (f i)
  has_all m n set e h i l = h.row_in i (rw e l)

pub givers_in : (P : Plan) (a o : ℕ) → ((i : ℕ) → i < P.links → In a (P.activation i)) → ((j : ℕ) → j < P.propositions → In o (P.observer j)) → Givers P (bit_or a o)
givers_in P a o h k = record { activation_in = λ i l. in_left a o (P.activation i) (h i l); observer_in = λ j l. in_right a o (P.observer j) (k j l) }

-- ---- the dependents of the points taken out
module _ (sets : List ℕ) (n changed : ℕ) where
  pub record Found (left found : ℕ) : Type 0 where
    pub left_below : left < 2 ^ n
    pub found_below : found < 2 ^ n
    pub left_or_found : (y x : ℕ) → y < n → In changed y → In (get_or sets y 0) x → In left y ⊎ In found x

  pub found_none : changed < 2 ^ n → Found changed 0
  found_none h = record { left_below = h; found_below = pow_pos n; left_or_found = λ y x l k d. inl k }

  pub found_all : (left found : ℕ) → left ≡ 0 → Found left found → (found < 2 ^ n) × ((y x : ℕ) → y < n → In changed y → In (get_or sets y 0) x → In found x)
  found_all left found e f = (f.found_below, λ y x l k d. go y x (f.left_or_found y x l k d))
    where
      go : (y x : ℕ) → In left y ⊎ In found x → In found x
      go y x (inl a) = absurd (none_in y (rw e at a))
      go y x (inr a) = a

  module _ (are : Sets n sets) (left found : ℕ) (f : Found left found) where
    -- the points left are below 32
    pub left_few : left < 2 ^ 32
    left_few = omega (arith, f.left_below, pow_mono {i = n} {j = 32} are.few)

    module _ (y : ℕ) (h : In left y) where
      pub lowest_below : (y < n) × (y < length sets)
      lowest_below = let l = point_below left n y h f.left_below in (l, omega (arith, are.long))

      pub found_more : (rest : ℕ) → rest ≡ remove left y → rest < left → Found rest (bit_or found (get_or sets y 0))
      found_more rest e l = record {
        left_below = omega (arith, f.left_below);
        found_below = union_below n found (get_or sets y 0) f.found_below (are.below y lowest_below.0);
        left_or_found = λ z x k c d. go z x d (ℕ_discrete z y) (f.left_or_found z x k c d);
      }
        where
          go : (z x : ℕ) → In (get_or sets z 0) x → Dec (z ≡ y) → In left z ⊎ In found x → In rest z ⊎ In (bit_or found (get_or sets y 0)) x
          go z x d b (inr a) = inr (in_left found (get_or sets y 0) x a)
          go z x d (yes s) (inl a) = inr (in_right found (get_or sets y 0) x (rw s at d))
          go z x d (no s) (inl a) = inl (rw e (in_rest left y z a s))

-- ---- both together
pub concerned_in : (n : ℕ) (sets : List ℕ) (changed lined givers a b : ℕ) → a < 2 ^ n → ((y x : ℕ) → y < n → In changed y → In (get_or sets y 0) x → In a x) → LinedOf n changed lined givers b → Concerned n sets changed lined givers (bit_or a b)
concerned_in n sets changed lined givers a b below h l = record {
  below = union_below n a b below l.below;
  dependent_in = λ y x k c d. in_left a b x (h y x k c d);
  lined_in = λ x k c. in_right a b x (l.lined_in x k c);
  given_in = λ x y k c g. in_right a b x (l.given_in x y k c g);
}
