-- Set and label in one number, set * 4 ^ p + label: a line's place among its point's cells. It has two bits for each proposition, then one
-- for each link. What code tests, joins and clears by bits of a place is what the rules test, join and clear in sets and labels.
use mathlib.Core.Path.{◌≡◌, refl, sym, ap, ap₂, ◌∙◌}
use mathlib.Core.Bool.{Bool, true, false, cond, not}
use Prim.Native.Nat.{ℕ, zero, suc, ◌+◌, ◌-◌, ◌*◌, ◌/◌, ◌%◌, ◌^◌, ◌≤◌, ◌<◌}
use native.Mathlib.Nat.{add-zero, one-mul, zero-mul, mul_comm, suc-mul, mod-lt, div-add-mod', div-mul-le_self, mul-le-mul_right, add-mul}
use native.Mathlib.Omega.{arith}
use lib.Dec.{eqb, lit<}
use lib.Bits.{bit_or, bit_and, and_block, and_zero_r, and_mask, or_block, or_zero_r, or_comm}
use lib.Pow.{pow_pos, pow-add, split, shr-shr, field, mod-mod-pow}
use borrow.Author.Tests.{ne_eqb, eqb-true}
use Rattle.plan.specs.Label.{digit, join, plain, clear_digit}
use Rattle.plan.specs.LinkSet.{contains, union, insert, remove}
use Rattle.plan.proofs.LabelLaws.{four, four_pos, digit_le, or_join, plain_more}

-- ---- masks
-- the bits of m, k places up
and_at : (n m k : ℕ) → bit_and n (m * 2 ^ k) ≡ bit_and (n / 2 ^ k) m * 2 ^ k
and_at n m k =
    ap₂ bit_and (sym (split n k)) (sym (add-zero (m * 2 ^ k)))
    ∙ and_block k (n / 2 ^ k) m (n % 2 ^ k) 0 (mod-lt _ (pow_pos k)) (pow_pos k)
    ∙ ap (λ (x : ℕ). bit_and (n / 2 ^ k) m * 2 ^ k + x) (and_zero_r (n % 2 ^ k)) ∙ add-zero _

bit_up : (p i : ℕ) → 2 ^ (2 * p + i) ≡ 2 ^ i * 4 ^ p
bit_up p i = pow-add 2 (2 * p) i ∙ ap (λ (x : ℕ). x * 2 ^ i) (four p) ∙ mul_comm (4 ^ p) (2 ^ i)

link_and : (p i t : ℕ) → bit_and t (2 ^ (2 * p + i)) ≡ t / 4 ^ p / 2 ^ i % 2 * 2 ^ (2 * p + i)
link_and p i t =
    ap (bit_and t) (sym (one-mul (2 ^ (2 * p + i)))) ∙ and_at t 1 (2 * p + i)
    ∙ ap (λ (x : ℕ). x * 2 ^ (2 * p + i)) (and_mask (t / 2 ^ (2 * p + i)) 1 ∙ ap (λ (x : ℕ). x % 2) (sym (shr-shr t (2 * p) i) ∙ ap (λ (x : ℕ). t / x / 2 ^ i) (four p)))

digit_and : (j t : ℕ) → bit_and t (3 * 4 ^ j) ≡ digit t j * 4 ^ j
unfolding digit
digit_and j t = rw four at (and_at t 3 (2 * j) ∙ ap (λ (x : ℕ). x * 2 ^ (2 * j)) (and_mask (t / 2 ^ (2 * j)) 2))

pub label_and : (p t : ℕ) → bit_and t (4 ^ p - 1) ≡ t % 4 ^ p
label_and p t = rw four at (and_mask t (2 * p))

-- a digit of the label is a digit of the place
pub digit_low : (p j t : ℕ) → j < p → digit (t % 4 ^ p) j ≡ digit t j
unfolding digit
digit_low p j t h =
    let d : ℕ = 2 * p - 2 * j in
    let e : 2 * p ≡ d + 2 * j = omega arith in
    let f : d ≡ d - 2 + 2 = omega arith in
    rw (four p, four j) at (ap (λ (x : ℕ). t % 2 ^ x / 2 ^ (2 * j) % 4) e ∙ ap (λ (x : ℕ). x % 4) (field t d (2 * j)) ∙ ap (λ (x : ℕ). t / 2 ^ (2 * j) % 2 ^ x % 4) f ∙ mod-mod-pow (t / 2 ^ (2 * j)) (d - 2) 2)

-- ---- tests
mul_test : (a b : ℕ) → 0 < b → eqb (a * b) 0 ≡ eqb a 0
mul_test zero b h = rw zero-mul
mul_test (suc a) b h = ne_eqb (suc a * b) 0 (λ e. omega (arith, suc-mul a b)) ∙ sym (ne_eqb (suc a) 0 (λ e. omega arith))

bit_test : (b : ℕ) → b < 2 → eqb b 0 ≡ not (eqb b 1)
bit_test zero h = refl
bit_test (suc zero) h = refl
bit_test (suc (suc b)) h = absurd (omega arith)

-- the place has the link's bit just where the set has the link
pub link_test : (p i t : ℕ) → eqb (bit_and t (2 ^ (2 * p + i))) 0 ≡ not (contains (t / 4 ^ p) i)
unfolding contains
link_test p i t = ap (λ (x : ℕ). eqb x 0) (link_and p i t) ∙ mul_test _ (2 ^ (2 * p + i)) (pow_pos _) ∙ bit_test (t / 4 ^ p / 2 ^ i % 2) (mod-lt _ (lit< tt))

-- it has a bit of the proposition's just where the label's digit is not 0
pub digit_test : (p j t : ℕ) → j < p → eqb (bit_and t (3 * 4 ^ j)) 0 ≡ eqb (digit (t % 4 ^ p) j) 0
digit_test p j t h = ap (λ (x : ℕ). eqb x 0) (digit_and j t) ∙ mul_test _ (4 ^ j) (four_pos j) ∙ ap (λ (x : ℕ). eqb x 0) (sym (digit_low p j t h))

-- the label of a place is plain, by the table's four digits
pub plain_test : (p t : ℕ) → p ≤ 4 → plain 4 (bit_and t (4 ^ p - 1)) ≡ plain p (t % 4 ^ p)
plain_test p t h = ap (plain 4) (label_and p t) ∙ plain_more p 4 (t % 4 ^ p) h (mod-lt _ (four_pos p))

-- ---- joining
or_place : (p s t l m : ℕ) → l < 4 ^ p → m < 4 ^ p → bit_or (s * 4 ^ p + l) (t * 4 ^ p + m) ≡ bit_or s t * 4 ^ p + bit_or l m
or_place p s t l m hl hm = rw four at (or_block (2 * p) s t l m (rw four hl) (rw four hm))

-- two places: the sets united, the labels joined
pub or_places : (p s t l m : ℕ) → l < 4 ^ p → m < 4 ^ p → bit_or (s * 4 ^ p + l) (t * 4 ^ p + m) ≡ union s t * 4 ^ p + join p l m
unfolding union
or_places p s t l m hl hm = or_place p s t l m hl hm ∙ ap (λ (x : ℕ). bit_or s t * 4 ^ p + x) (or_join p l m hl hm)

-- a place and a label
pub or_label : (p t a : ℕ) → a < 4 ^ p → bit_or t a ≡ t / 4 ^ p * 4 ^ p + join p a (t % 4 ^ p)
or_label p t a h =
    let z : a ≡ 0 * 4 ^ p + a = omega (arith, zero-mul (4 ^ p)) in
    ap₂ bit_or (sym (div-add-mod' t (4 ^ p))) z ∙ or_place p (t / 4 ^ p) 0 (t % 4 ^ p) a (mod-lt _ (four_pos p)) h
    ∙ ap₂ (λ (x y : ℕ). x * 4 ^ p + y) (or_zero_r (t / 4 ^ p)) (or_comm (t % 4 ^ p) a ∙ or_join p a (t % 4 ^ p) h (mod-lt _ (four_pos p)))

-- a place and a link
pub or_link : (p t i : ℕ) → bit_or t (2 ^ (2 * p + i)) ≡ insert (t / 4 ^ p) i * 4 ^ p + t % 4 ^ p
unfolding insert union
or_link p t i =
    ap₂ bit_or (sym (div-add-mod' t (4 ^ p))) (bit_up p i ∙ sym (add-zero (2 ^ i * 4 ^ p))) ∙ or_place p (t / 4 ^ p) (2 ^ i) (t % 4 ^ p) 0 (mod-lt _ (four_pos p)) (four_pos p)
    ∙ ap (λ (x : ℕ). bit_or (t / 4 ^ p) (2 ^ i) * 4 ^ p + x) (or_zero_r (t % 4 ^ p))

-- ---- clearing
pub clear_link : (p t i : ℕ) → t - bit_and t (2 ^ (2 * p + i)) ≡ remove (t / 4 ^ p) i * 4 ^ p + t % 4 ^ p
unfolding remove contains
clear_link p t i = go (contains s i) refl
  where
    s : ℕ
    s = t / 4 ^ p

    go : (b : Bool) → contains s i ≡ b → t - bit_and t (2 ^ (2 * p + i)) ≡ cond b (s - 2 ^ i) s * 4 ^ p + t % 4 ^ p
    go true e =
        let one : s / 2 ^ i % 2 ≡ 1 = eqb-true (s / 2 ^ i % 2) 1 e in
        let in' : 1 * 2 ^ i ≤ s / 2 ^ i * 2 ^ i = mul-le-mul_right (2 ^ i) (omega arith) in
        let low : 2 ^ i ≤ s = omega (arith, div-mul-le_self s (2 ^ i)) in
        let back : (s - 2 ^ i) + 2 ^ i ≡ s = omega arith in
        let high : (s - 2 ^ i) * 4 ^ p + 2 ^ i * 4 ^ p ≡ s * 4 ^ p = sym (add-mul (s - 2 ^ i) (2 ^ i) (4 ^ p)) ∙ ap (λ (x : ℕ). x * 4 ^ p) back in
        let bits : bit_and t (2 ^ (2 * p + i)) ≡ 2 ^ i * 4 ^ p = link_and p i t ∙ ap (λ (x : ℕ). x * 2 ^ (2 * p + i)) one ∙ one-mul _ ∙ bit_up p i in
        omega (arith, div-add-mod' t (4 ^ p))
    go false e =
        let none : bit_and t (2 ^ (2 * p + i)) ≡ 0 = eqb-true _ 0 (link_test p i t ∙ ap not e) in
        omega (arith, div-add-mod' t (4 ^ p))

pub clear_place : (p t j : ℕ) → j < p → t - bit_and t (3 * 4 ^ j) ≡ t / 4 ^ p * 4 ^ p + clear_digit (t % 4 ^ p) j
unfolding clear_digit
clear_place p t j h =
    let e = digit_and j t in
    let f : digit (t % 4 ^ p) j * 4 ^ j ≡ digit t j * 4 ^ j = ap (λ (x : ℕ). x * 4 ^ j) (digit_low p j t h) in
    omega (arith, div-add-mod' t (4 ^ p), digit_le (t % 4 ^ p) j)
