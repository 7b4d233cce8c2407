-- Digits of joined labels, of labels with a digit cleared and of plain labels, and the links of sets that a rule makes.
use mathlib.Core.Path.{◌≡◌, refl, sym, ap, ap₂, subst, ◌∙◌}
use mathlib.Core.Bool.{Bool, true, false, cond, not}
use mathlib.Core.Logic.{◌⊎◌, inl, inr}
use Prim.Native.Nat.{ℕ, zero, suc, ◌-◌, ◌*◌, ◌/◌, ◌%◌, ◌^◌, ◌≤◌, ◌<◌}
use native.Mathlib.Nat.{pow-succ', mod-lt, one-mul, zero-div}
use native.Mathlib.Decide.{ℕ_discrete}
use native.Mathlib.Omega.{arith}
use lib.Dec.{T as Is, eqb, lit<, T_not, not_T, eqb→eq}
use lib.Pow.{pow-lt, shl-shr}
use borrow.Author.Tests.{eqb-true, eq-eqb, ne_eqb}
use lib.Ieee.Fits.{and_l, and_r, and_i, eq→eqb}
use lib.Bits.{bit_or, or_shr, or_mod, or_comm, or_lt}
use Rattle.plan.specs.Label.{digit, join_digit, join, plain, clear_digit}
use Rattle.plan.specs.LinkSet.{contains, union, insert, remove}
use Rattle.plan.proofs.Bases.{digit_of, digit_zero, digit_up, lowest_digit, higher_digit, without, others, itself}
use Rattle.plan.proofs.LabelLaws.{join_digit_lt}

-- ---- digits of labels
pub digit_lt : (a j : ℕ) → digit a j < 4
unfolding digit
digit_lt a j = mod-lt (a / 4 ^ j) (lit< tt)

pub clear_other : (a j k : ℕ) → (k ≡ j → ⊥) → digit (clear_digit a j) k ≡ digit a k
unfolding digit clear_digit digit_of without
clear_other a j k n = others 4 (lit< tt) a j k n

pub clear_same : (a j : ℕ) → digit (clear_digit a j) j ≡ 0
unfolding digit clear_digit digit_of without
clear_same a j = itself 4 (lit< tt) a j

join_low : (a b : ℕ) → join_digit (a % 4) (b % 4) < 4
join_low a b = join_digit_lt (a % 4) (b % 4) (mod-lt a (lit< tt)) (mod-lt b (lit< tt))

pub digit_join : (p a b j : ℕ) → j < p → digit (join p a b) j ≡ join_digit (digit a j) (digit b j)
unfolding join digit digit_of
digit_join zero a b j h = absurd (omega arith)
digit_join (suc p) a b zero h =
    lowest_digit 4 (lit< tt) (join_digit (a % 4) (b % 4)) (join p (a / 4) (b / 4)) (join_low a b)
    ∙ ap₂ join_digit (sym (digit_zero 4 (lit< tt) a)) (sym (digit_zero 4 (lit< tt) b))
digit_join (suc p) a b (suc j) h =
    higher_digit 4 (lit< tt) (join_digit (a % 4) (b % 4)) (join p (a / 4) (b / 4)) j (join_low a b)
    ∙ digit_join p (a / 4) (b / 4) j (omega arith)
    ∙ ap₂ join_digit (sym (digit_up 4 (lit< tt) a j)) (sym (digit_up 4 (lit< tt) b j))

-- the digit z carries the digit x: x is absent, or z is the same, or unknown
abbrev pub Carries : ℕ → ℕ → Type 0
Carries x z = (x ≡ 0) ⊎ ((z ≡ x) ⊎ (z ≡ 3))

joined : (x y : ℕ) → Carries x (join_digit x y) × Carries y (join_digit x y)
unfolding join_digit
joined x y = go (ℕ_discrete x 0) (ℕ_discrete y 0) (ℕ_discrete x y)
  where
    go : Dec (x ≡ 0) → Dec (y ≡ 0) → Dec (x ≡ y) → Carries x (join_digit x y) × Carries y (join_digit x y)
    go (yes a) b c = (inl a, inr (inl (rw (eq-eqb x 0 a) refl)))
    go (no a) (yes b) c = (inr (inl (rw (ne_eqb x 0 a, eq-eqb y 0 b) refl)), inl b)
    go (no a) (no b) (yes c) = let e : join_digit x y ≡ x = rw (ne_eqb x 0 a, ne_eqb y 0 b, eq-eqb x y c) refl in (inr (inl e), inr (inl (e ∙ c)))
    go (no a) (no b) (no c) = let e : join_digit x y ≡ 3 = rw (ne_eqb x 0 a, ne_eqb y 0 b, ne_eqb x y c) refl in (inr (inr e), inr (inr e))

-- a join carries the digits of both
pub join_left : (p a b j : ℕ) → j < p → Carries (digit a j) (digit (join p a b) j)
join_left p a b j h = rw (digit_join p a b j h) (joined (digit a j) (digit b j)).0

pub join_right : (p a b j : ℕ) → j < p → Carries (digit b j) (digit (join p a b) j)
join_right p a b j h = rw (digit_join p a b j h) (joined (digit a j) (digit b j)).1

-- no digit of a plain label is unknown
pub plain_known : (p a j : ℕ) → Is (plain p a) → j < p → digit a j ≡ 3 → ⊥
unfolding plain digit digit_of
plain_known zero a j t h e = omega arith
plain_known (suc p) a zero t h e = T_not (eqb (a % 4) 3) (and_l (not (eqb (a % 4) 3)) (plain p (a / 4)) t) (eq→eqb (sym (digit_zero 4 (lit< tt) a) ∙ e))
plain_known (suc p) a (suc j) t h e = plain_known p (a / 4) j (and_r (not (eqb (a % 4) 3)) (plain p (a / 4)) t) (omega arith) (sym (digit_up 4 (lit< tt) a j) ∙ e)

-- a label none of whose digits is unknown is plain
pub plain_of : (p a : ℕ) → ((j : ℕ) → j < p → digit a j ≡ 3 → ⊥) → Is (plain p a)
unfolding plain digit digit_of
plain_of zero a f = tt
plain_of (suc p) a f =
    and_i (not (eqb (a % 4) 3)) (plain p (a / 4))
    (not_T (eqb (a % 4) 3) (λ t. f 0 (omega arith) (digit_zero 4 (lit< tt) a ∙ eqb→eq _ _ t)))
    (plain_of p (a / 4) (λ j h e. f (suc j) (omega arith) (digit_up 4 (lit< tt) a j ∙ e)))

-- ---- links of sets
bit_or_lem : (x : ℕ) → x < 2 → bit_or 1 x ≡ 1
bit_or_lem zero h = refl
bit_or_lem (suc zero) h = refl
bit_or_lem (suc (suc x)) h = absurd (omega arith)

pub in_left : (s t i : ℕ) → Is (contains s i) → Is (contains (union s t) i)
unfolding contains union
in_left s t i h =
    let e : s / 2 ^ i % 2 ≡ 1 = eqb→eq _ _ h in
    eq→eqb (ap (λ (x : ℕ). x % 2) (or_shr s t i) ∙ or_mod (s / 2 ^ i) (t / 2 ^ i) 1 ∙ rw e (bit_or_lem (t / 2 ^ i % 2) (mod-lt _ (lit< tt))))

pub in_right : (s t i : ℕ) → Is (contains t i) → Is (contains (union s t) i)
unfolding union
in_right s t i h = rw (or_comm s t) (in_left t s i h)

pub in_added : (s i : ℕ) → Is (contains (insert s i) i)
unfolding insert contains
in_added s i = in_right s (2 ^ i) i (eq→eqb (ap (λ (x : ℕ). x % 2) (ap (λ (x : ℕ). x / 2 ^ i) (sym (one-mul (2 ^ i))) ∙ shl-shr 1 i)))

pub in_insert : (s i k : ℕ) → Is (contains s k) → Is (contains (insert s i) k)
unfolding insert
in_insert s i k h = in_left s (2 ^ i) k h

-- to take a link out is to clear its binary digit
remove_digit : (s i : ℕ) → contains s i ≡ true → s - 2 ^ i ≡ without 2 (lit< tt) s i
unfolding contains without digit_of
remove_digit s i e = sym (ap (λ (x : ℕ). s - x * 2 ^ i) (eqb-true (s / 2 ^ i % 2) 1 e) ∙ ap (λ (x : ℕ). s - x) (one-mul (2 ^ i)))

pub in_remove : (s i k : ℕ) → (k ≡ i → ⊥) → Is (contains s k) → Is (contains (remove s i) k)
unfolding remove contains digit_of
in_remove s i k n h = go (contains s i) refl
  where
    go : (b : Bool) → contains s i ≡ b → Is (contains (cond b (s - 2 ^ i) s) k)
    go false e = h
    go true e = eq→eqb (ap (λ (x : ℕ). digit_of 2 (lit< tt) x k) (remove_digit s i e) ∙ others 2 (lit< tt) s i k n ∙ eqb→eq _ _ h)

-- ---- where a link of such a set comes from
or_bit : (x y : ℕ) → x < 2 → y < 2 → bit_or x y ≡ 1 → (x ≡ 1) ⊎ (y ≡ 1)
or_bit zero zero h k e = absurd (omega arith)
or_bit zero (suc zero) h k e = inr refl
or_bit zero (suc (suc y)) h k e = absurd (omega arith)
or_bit (suc zero) y h k e = inl refl
or_bit (suc (suc x)) y h k e = absurd (omega arith)

pub of_union : (s t i : ℕ) → Is (contains (union s t) i) → Is (contains s i) ⊎ Is (contains t i)
unfolding contains union
of_union s t i h = go (or_bit (s / 2 ^ i % 2) (t / 2 ^ i % 2) (mod-lt _ (lit< tt)) (mod-lt _ (lit< tt)) (sym (ap (λ (x : ℕ). x % 2) (or_shr s t i) ∙ or_mod (s / 2 ^ i) (t / 2 ^ i) 1) ∙ eqb→eq _ _ h))
  where
    go : (s / 2 ^ i % 2 ≡ 1) ⊎ (t / 2 ^ i % 2 ≡ 1) → Is (eqb (s / 2 ^ i % 2) 1) ⊎ Is (eqb (t / 2 ^ i % 2) 1)
    go (inl e) = inl (eq→eqb e)
    go (inr e) = inr (eq→eqb e)

none_digit : (k : ℕ) → digit_of 2 (lit< tt) 0 k ≡ 0
unfolding digit_of
none_digit k = rw (zero-div (2 ^ k))

-- a power of 2 has one bit
power_digit : (i k : ℕ) → digit_of 2 (lit< tt) (2 ^ i) k ≡ 1 → k ≡ i
power_digit zero zero e = refl
power_digit zero (suc k) e = absurd (omega (arith, digit_up 2 (lit< tt) 1 k, none_digit k, e))
power_digit (suc i) zero e = let f : 2 ^ suc i ≡ 2 * 2 ^ i = pow-succ' 2 i in absurd (omega (arith, digit_zero 2 (lit< tt) (2 ^ suc i), e, f))
power_digit (suc i) (suc k) e =
    let f : 2 ^ suc i / 2 ≡ 2 ^ i = omega (arith, pow-succ' 2 i) in
    ap suc (power_digit i k (sym (ap (λ (x : ℕ). digit_of 2 (lit< tt) x k) f) ∙ sym (digit_up 2 (lit< tt) (2 ^ suc i) k) ∙ e))

pub of_insert : (s i k : ℕ) → Is (contains (insert s i) k) → Is (contains s k) ⊎ (k ≡ i)
unfolding insert contains digit_of
of_insert s i k h = go (of_union s (2 ^ i) k h)
  where
    go : Is (contains s k) ⊎ Is (contains (2 ^ i) k) → Is (contains s k) ⊎ (k ≡ i)
    go (inl t) = inl t
    go (inr t) = inr (power_digit i k (eqb→eq _ _ t))

remove_own_not : (s i : ℕ) → Is (contains (remove s i) i) → ⊥
unfolding remove contains digit_of
remove_own_not s i h = go (contains s i) refl h
  where
    go : (b : Bool) → contains s i ≡ b → Is (contains (cond b (s - 2 ^ i) s) i) → ⊥
    go false e t = subst (λ (x : Bool). Is x) e t
    go true e t = omega (arith, eqb→eq (digit_of 2 (lit< tt) (s - 2 ^ i) i) 1 t, ap (λ (x : ℕ). digit_of 2 (lit< tt) x i) (remove_digit s i e), itself 2 (lit< tt) s i)

pub of_remove : (s i k : ℕ) → Is (contains (remove s i) k) → Is (contains s k) × (k ≡ i → ⊥)
unfolding remove contains digit_of
of_remove s i k h = (go (contains s i) refl h, n)
  where
    n : k ≡ i → ⊥
    n q = remove_own_not s i (subst (λ (x : ℕ). Is (contains (remove s i) x)) q h)

    go : (b : Bool) → contains s i ≡ b → Is (contains (cond b (s - 2 ^ i) s) k) → Is (contains s k)
    go false e t = t
    go true e t = eq→eqb (sym (ap (λ (x : ℕ). digit_of 2 (lit< tt) x k) (remove_digit s i e) ∙ others 2 (lit< tt) s i k n) ∙ eqb→eq _ _ t)

-- ---- the sets of k links are the numbers below 2 ^ k
pub insert_in : (k s i : ℕ) → s < 2 ^ k → i < k → insert s i < 2 ^ k
unfolding insert union
insert_in k s i h l = or_lt k s (2 ^ i) h (pow-lt l)

remove_le : (s i : ℕ) → remove s i ≤ s
unfolding remove
remove_le s i = go (contains s i)
  where
    go : (b : Bool) → cond b (s - 2 ^ i) s ≤ s
    go true = omega arith
    go false = omega arith

pub remove_in_lem : (k s i : ℕ) → s < 2 ^ k → remove s i < 2 ^ k
remove_in_lem k s i h = omega (arith, remove_le s i)

-- ---- two digits joined
join_zero : (d : ℕ) → join_digit d 0 ≡ d
unfolding join_digit
join_zero d = go (ℕ_discrete d 0)
  where
    go : Dec (d ≡ 0) → join_digit d 0 ≡ d
    go (yes e) = rw e
    go (no e) = rw (ne_eqb d 0 e)

zero_join : (d : ℕ) → join_digit 0 d ≡ d
unfolding join_digit
zero_join d = refl

join_same : (d : ℕ) → join_digit d d ≡ d
unfolding join_digit
join_same d = go (ℕ_discrete d 0)
  where
    go : Dec (d ≡ 0) → join_digit d d ≡ d
    go (yes e) = rw e
    go (no e) = rw (ne_eqb d 0 e, eq-eqb d d refl)

-- what holds of two digits holds of their join, if each is absent or v
pub join_one : (Q : ℕ → Type 0) (v d e : ℕ) → (d ≡ 0) ⊎ (d ≡ v) → (e ≡ 0) ⊎ (e ≡ v) → Q d → Q e → Q (join_digit d e)
join_one Q v d e (inl p) q a b = subst Q (sym (ap (λ (x : ℕ). join_digit x e) p ∙ zero_join e)) b
join_one Q v d e (inr p) (inl q) a b = subst Q (sym (ap (join_digit d) q ∙ join_zero d)) a
join_one Q v d e (inr p) (inr q) a b = subst Q (sym (ap (join_digit d) (q ∙ sym p) ∙ join_same d)) a
