-- How many numbers below n have a property.
use mathlib.Core.Path.{◌≡◌, refl}
use mathlib.Core.Logic.{◌⊎◌, inl, inr, ⊎_elim}
use Prim.Native.Nat.{ℕ, zero, suc, ◌+◌, ◌-◌, ◌*◌, ◌≤◌, ◌<◌}
use native.Mathlib.Nat.{le_refl, add-zero, add-suc}
use native.Mathlib.Decide.{ℕ_discrete, dec_le, dec_lt}
use native.Mathlib.Omega.{arith}

one : {A : Type 0} → Dec A → ℕ
one (yes h) = 1
one (no h) = 0

one_le : {A B : Type 0} (a : Dec A) (b : Dec B) → (A → B) → one a ≤ one b
unfolding one
one_le (yes h) (yes k) f = omega arith
one_le (yes h) (no k) f = absurd (k (f h))
one_le (no h) b f = omega arith

one_or : {A B C : Type 0} (a : Dec A) (b : Dec B) (c : Dec C) → (A → B ⊎ C) → one a ≤ one b + one c
unfolding one
one_or (no h) b c f = omega arith
one_or (yes h) (yes k) c f = omega arith
one_or (yes h) (no k) (yes l) f = omega arith
one_or (yes h) (no k) (no l) f = absurd (⊎_elim k l (f h))

one_small : {A : Type 0} (a : Dec A) → one a ≤ 1
unfolding one
one_small (yes h) = omega arith
one_small (no h) = omega arith

one_is : {A : Type 0} (a : Dec A) → A → one a ≡ 1
unfolding one
one_is (yes h) k = refl
one_is (no h) k = absurd (h k)

one_not : {A : Type 0} (a : Dec A) → (A → ⊥) → one a ≡ 0
unfolding one
one_not (yes h) f = absurd (f h)
one_not (no h) f = refl

pub count : (Q : ℕ → Type 0) → ((x : ℕ) → Dec (Q x)) → ℕ → ℕ
count Q q zero = 0
count Q q (suc n) = one (q n) + count Q q n

-- ---- two properties
module _ (Q R : ℕ → Type 0) (q : (x : ℕ) → Dec (Q x)) (r : (x : ℕ) → Dec (R x)) where
  pub count_le : (n : ℕ) → ((x : ℕ) → x < n → Q x → R x) → count Q q n ≤ count R r n
  unfolding count
  count_le zero f = omega arith
  count_le (suc n) f = omega (arith, one_le (q n) (r n) (f n (omega arith)), count_le n (λ x h. f x (omega arith)))

  -- of one property or another
  pub count_or : (S : ℕ → Type 0) (s : (x : ℕ) → Dec (S x)) → ((x : ℕ) → S x → Q x ⊎ R x) → (n : ℕ) → count S s n ≤ count Q q n + count R r n
  unfolding count
  count_or S s f zero = omega arith
  count_or S s f (suc n) = omega (arith, one_or (s n) (q n) (r n) (f n), count_or S s f n)

-- ---- one property
module _ (Q : ℕ → Type 0) (q : (x : ℕ) → Dec (Q x)) where
  pub count_zero : count Q q 0 ≡ 0
  unfolding count
  count_zero = refl

  -- d more numbers
  pub count_more : (n d : ℕ) → count Q q n ≤ count Q q (n + d)
  unfolding count
  count_more n zero = rw add-zero (le_refl _)
  count_more n (suc d) = rw add-suc (omega (arith, count_more n d))

  pub count_few : (n d : ℕ) → count Q q (n + d) ≤ count Q q n + d
  unfolding count
  count_few n zero = rw (add-zero n) (omega arith)
  count_few n (suc d) = rw (add-suc n d) (omega (arith, count_few n d, one_small (q (n + d))))

  pub count_each : (n d : ℕ) → ((x : ℕ) → n ≤ x → x < n + d → Q x) → count Q q (n + d) ≡ count Q q n + d
  unfolding count
  count_each n zero f = rw (add-zero n) (omega arith)
  count_each n (suc d) f = rw (add-suc n d) (omega (arith, count_each n d (λ x h k. f x h (omega arith)), one_is (q (n + d)) (f (n + d) (omega arith) (omega arith))))

  pub count_none : (n : ℕ) → ((x : ℕ) → Q x → ⊥) → count Q q n ≡ 0
  unfolding count
  count_none zero f = refl
  count_none (suc n) f = omega (arith, one_not (q n) (f n), count_none n f)

-- ---- the b numbers from e on
abbrev pub From : ℕ → ℕ → ℕ → Type 0
From e b x = (e ≤ x) × (x < e + b)

pub from? : (e b x : ℕ) → Dec (From e b x)
from? e b x = go (dec_le e x) (dec_lt x (e + b))
  where
    go : Dec (e ≤ x) → Dec (x < e + b) → Dec (From e b x)
    go (yes h) (yes k) = yes (h, k)
    go (yes h) (no k) = no (λ y. k y.1)
    go (no h) k = no (λ y. h y.0)

count_from : (e b n : ℕ) → (count (From e b) (from? e b) n ≤ b) × (count (From e b) (from? e b) n ≤ n - e)
unfolding count one
count_from e b zero = (omega arith, omega arith)
count_from e b (suc n) = go (from? e b n) (count_from e b n)
  where
    go : (d : Dec (From e b n)) → (count (From e b) (from? e b) n ≤ b) × (count (From e b) (from? e b) n ≤ n - e) → (one d + count (From e b) (from? e b) n ≤ b) × (one d + count (From e b) (from? e b) n ≤ suc n - e)
    go (yes k) h = omega arith
    go (no k) h = omega arith

pub count_part : (e b n : ℕ) → count (From e b) (from? e b) n ≤ b
count_part e b n = (count_from e b n).0

-- ---- some number below n has a property
pub record Some (Q : ℕ → Type 0) (n : ℕ) : Type 0 where
  pub number : ℕ
  pub under : number < n
  pub holds : Q number

some_or : (Q : ℕ → Type 0) (n : ℕ) → Some Q (suc n) → Some Q n ⊎ Q n
some_or Q n s = go (ℕ_discrete s.number n)
  where
    go : Dec (s.number ≡ n) → Some Q n ⊎ Q n
    go (yes e) = inr (rw e at s.holds)
    go (no e) = inl (record { number = s.number; under = omega (arith, s.under); holds = s.holds })

some_more : (Q : ℕ → Type 0) (n : ℕ) → Some Q n → Some Q (suc n)
some_more Q n s = record { number = s.number; under = omega (arith, s.under); holds = s.holds }

pub some? : (Q : ℕ → Type 0) → ((x : ℕ) → Dec (Q x)) → (n : ℕ) → Dec (Some Q n)
some? Q q zero = no (λ s. omega (arith, s.under))
some? Q q (suc n) = go (q n) (some? Q q n)
  where
    go : Dec (Q n) → Dec (Some Q n) → Dec (Some Q (suc n))
    go (yes h) d = yes (record { number = n; under = omega arith; holds = h })
    go (no h) (yes s) = yes (some_more Q n s)
    go (no h) (no s) = no (λ k. ⊎_elim s h (some_or Q n k))

-- ---- the b numbers from any of m starts on
abbrev pub Near : (ℕ → ℕ) → ℕ → ℕ → ℕ → Type 0
Near T b m s = Some (λ x. From (T x) b s) m

pub near? : (T : ℕ → ℕ) (b m s : ℕ) → Dec (Near T b m s)
near? T b m s = some? (λ x. From (T x) b s) (λ x. from? (T x) b s) m

pub count_near : (T : ℕ → ℕ) (b m n : ℕ) → count (Near T b m) (near? T b m) n ≤ m * b
count_near T b zero n = omega (arith, count_none (Near T b 0) (near? T b 0) n (λ s k. omega (arith, k.under)))
count_near T b (suc m) n = omega (arith, count_near T b m n, count_or (Near T b m) (From (T m) b) (near? T b m) (from? (T m) b) (Near T b (suc m)) (near? T b (suc m)) (λ s. some_or (λ x. From (T x) b s) m) n, count_part (T m) b n)
