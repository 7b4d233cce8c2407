-- Laws of the places without a row's bits: each place is such a one with a value of the row's bits put in.
use mathlib.Core.Path.{◌≡◌, sym, ap, ap₂, ◌∙◌}
use mathlib.Core.Bool.{Bool, true, false, not, ◌||◌}
use Prim.Native.Nat.{ℕ, ◌+◌, ◌-◌, ◌*◌, ◌/◌, ◌%◌, ◌^◌, ◌≤◌, ◌<◌}
use native.Mathlib.Nat.{mul_assoc, mul_comm, mul_left_comm, mul-div_cancel, add-div_right, div-eq_of_eq-mul_right, zero-add, zero-mul, add-mul, mod-lt, zero-div, zero-mod, div-add-mod', div-lt_iff_lt-mul, mul-le-mul_right, add-zero}
use native.Mathlib.Decide.{ℕ_discrete}
use native.Mathlib.Omega.{arith}
use lib.Dec.{ltb, eqb}
use lib.Arith.{digits_lt, digits_div, digits_mod}
use lib.Bits.{bit_or, bit_and, or_block, or_shr, or_mod, or_lt, or_self, and_mask, and_high}
use lib.Pow.{pow_pos, pow-add}
use borrow.Author.Tests.{eq-eqb, ne_eqb}
use Rattle.rules_fill.specs.Shapes.{touches, cleared, is_line}
use Rattle.rules_fill.specs.Cells.{Run}
use Rattle.rules_dense.specs.Gathered.{free_place, FreeRun}

-- a place's value of the row's bits, and which of the places without them it else is
abbrev pub value_of : ℕ → ℕ → ℕ → ℕ
value_of low times t = t / low % times

abbrev pub index_of : ℕ → ℕ → ℕ → ℕ
index_of low times t = t / low / times * low + t % low

module _ {low times count : ℕ} (f : FreeRun low times count) where
  pub low_pos : 0 < low
  low_pos = rw f.low_is (pow_pos f.below)

  pub times_pos : 0 < times
  times_pos = rw f.times_is (pow_pos f.bits)

  pub count_pos : 0 < count
  count_pos = rw f.count_is (pow_pos (f.above + f.below))

  pub times_small : times ≤ 65536
  times_small = omega (arith, f.small, mul_comm times count, mul-le-mul_right times count_pos)

  count_blocks : count ≡ 2 ^ f.above * low
  count_blocks = f.count_is ∙ pow-add 2 f.above f.below ∙ ap (λ (x : ℕ). 2 ^ f.above * x) (sym f.low_is)

  width_blocks : times * count ≡ 2 ^ f.above * times * low
  width_blocks =
      ap (λ (x : ℕ). times * x) count_blocks ∙ sym (mul_assoc times (2 ^ f.above) low) ∙ ap (λ (x : ℕ). x * low) (mul_comm times (2 ^ f.above))

  block_below : (z : ℕ) → z < count → z / low < 2 ^ f.above
  block_below z h = (div-lt_iff_lt-mul low_pos).1 (omega (arith, count_blocks))

  -- ---- the z-th place, with value m of the row's bits
  valued : (z m : ℕ) → m * low + free_place low times z ≡ (z / low * times + m) * low + z % low
  unfolding free_place
  valued z m = omega (arith, add-mul (z / low * times) m low)

  pub valued_in : (z m : ℕ) → z < count → m < times → m * low + free_place low times z < times * count
  valued_in z m h k =
      rw (valued z m, width_blocks) (digits_lt (digits_lt (block_below z h) k) (mod-lt z low_pos))

  pub free_in : (z : ℕ) → z < count → free_place low times z < times * count
  free_in z h = omega (arith, valued_in z 0 h times_pos, zero-mul low)

  valued_bits : (z m : ℕ) → m < times → (m * low + free_place low times z) / low % times ≡ m
  valued_bits z m k = ap (λ (x : ℕ). x / low % times) (valued z m) ∙ ap (λ (x : ℕ). x % times) (digits_div (z / low * times + m) (mod-lt z low_pos)) ∙ digits_mod (z / low) k

  -- place 0 lies in a table that has all
  pub first_in : {base n : ℕ} → base + times * count ≤ n → base < n
  first_in h = omega (arith, h, free_in 0 count_pos)

  -- ---- the place as the code has it
  low_bits : (z : ℕ) → bit_and z (low - 1) ≡ z % low
  low_bits z = ap (λ (x : ℕ). bit_and z (x - 1)) f.low_is ∙ and_mask z f.below ∙ ap (λ (x : ℕ). z % x) (sym f.low_is)

  pub free_made : (z : ℕ) → (z - bit_and z (low - 1)) * times + bit_and z (low - 1) ≡ free_place low times z
  unfolding free_place
  free_made z =
      let e : z - z % low ≡ z / low * low = omega (arith, div-add-mod' z low) in
      ap (λ (x : ℕ). (z - x) * times + x) (low_bits z) ∙ ap (λ (x : ℕ). x * times + z % low) e
      ∙ ap (λ (x : ℕ). x + z % low) (mul_assoc (z / low) low times ∙ ap (λ (x : ℕ). z / low * x) (mul_comm low times) ∙ sym (mul_assoc (z / low) times low))

  -- ---- the first is place 0
  free_le : (z : ℕ) → z ≤ free_place low times z
  unfolding free_place
  free_le z =
      let e : 1 * (z / low) ≤ times * (z / low) = mul-le-mul_right (z / low) times_pos in
      let g : z / low ≤ z / low * times = omega (arith, e, mul_comm times (z / low)) in
      omega (arith, div-add-mod' z low, mul-le-mul_right low g)

  pub free_none : free_place low times 0 ≡ 0
  unfolding free_place
  free_none = ap₂ (λ (x y : ℕ). x * times * low + y) (zero-div low) (zero-mod low) ∙ ap (λ (x : ℕ). x * low + 0) (zero-mul times) ∙ ap (λ (x : ℕ). x + 0) (zero-mul low)

  pub free_line : (z v : ℕ) → is_line (free_place low times z) v ≡ is_line z v
  unfolding is_line
  free_line z v = ap (λ (b : Bool). ltb 0 v || b) (go (ℕ_discrete z 0))
    where
      go : Dec (z ≡ 0) → eqb (free_place low times z) 0 ≡ eqb z 0
      go (yes e) = eq-eqb (free_place low times z) 0 (ap (free_place low times) e ∙ free_none) ∙ sym (eq-eqb z 0 e)
      go (no e) = ne_eqb (free_place low times z) 0 (λ q. e (omega (arith, q, free_le z))) ∙ sym (ne_eqb z 0 e)

  -- ---- each place is such a one
  pub value_below : (t : ℕ) → value_of low times t < times
  value_below t = mod-lt (t / low) times_pos

  pub index_below : (t : ℕ) → t < times * count → index_of low times t < count
  index_below t h =
      let a : t / low < 2 ^ f.above * times = (div-lt_iff_lt-mul low_pos).1 (omega (arith, width_blocks)) in
      omega (arith, count_blocks, digits_lt ((div-lt_iff_lt-mul times_pos).1 a) (mod-lt t low_pos))

  pub place_is : (t : ℕ) → value_of low times t * low + free_place low times (index_of low times t) ≡ t
  place_is t =
      let l : t % low < low = mod-lt t low_pos in
      valued (index_of low times t) (value_of low times t) ∙ ap₂ (λ (x y : ℕ). (x * times + value_of low times t) * low + y) (digits_div (t / low / times) l) (digits_mod (t / low / times) l)
      ∙ ap (λ (x : ℕ). x * low + t % low) (div-add-mod' (t / low) times) ∙ div-add-mod' t low

  -- ---- joined
  pub free_joined : (a b : ℕ) → bit_or (free_place low times a) (free_place low times b) ≡ free_place low times (bit_or a b)
  unfolding free_place
  free_joined a b = rw (f.low_is, f.times_is) (go f.below f.bits)
    where
      go : (k j : ℕ) → bit_or (a / 2 ^ k * 2 ^ j * 2 ^ k + a % 2 ^ k) (b / 2 ^ k * 2 ^ j * 2 ^ k + b % 2 ^ k) ≡ bit_or a b / 2 ^ k * 2 ^ j * 2 ^ k + bit_or a b % 2 ^ k
      go k j = or_block k (a / 2 ^ k * 2 ^ j) (b / 2 ^ k * 2 ^ j) (a % 2 ^ k) (b % 2 ^ k) (mod-lt a (pow_pos k)) (mod-lt b (pow_pos k))
          ∙ ap₂ (λ (x y : ℕ). x * 2 ^ k + y) (shifted (a / 2 ^ k) (b / 2 ^ k) j ∙ ap (λ (x : ℕ). x * 2 ^ j) (sym (or_shr a b k))) (sym (or_mod a b k))
        where
          shifted : (c d j : ℕ) → bit_or (c * 2 ^ j) (d * 2 ^ j) ≡ bit_or c d * 2 ^ j
          shifted c d j = sym (ap₂ bit_or (add-zero (c * 2 ^ j)) (add-zero (d * 2 ^ j))) ∙ or_block j c d 0 0 (pow_pos j) (pow_pos j) ∙ ap (λ (x : ℕ). bit_or c d * 2 ^ j + x) (or_self 0) ∙ add-zero (bit_or c d * 2 ^ j)

  pub joined_below : (a b : ℕ) → a < count → b < count → bit_or a b < count
  joined_below a b h k = rw f.count_is (or_lt (f.above + f.below) a b (rw (sym f.count_is) h) (rw (sym f.count_is) k))

  -- ---- the row's bits
  module _ (mask : ℕ) (mask_is : mask + low ≡ times * low) where
    row_bits : (t : ℕ) → bit_and t mask ≡ value_of low times t * low
    row_bits t =
        let e : mask ≡ 2 ^ (f.bits + f.below) - 2 ^ f.below = omega (arith, mask_is, f.low_is, pow-add 2 f.bits f.below, ap₂ (λ (x y : ℕ). x * y) f.times_is f.low_is) in
        ap (bit_and t) e ∙ and_high t f.bits f.below ∙ ap₂ (λ (x y : ℕ). t / x % y * x) (sym f.low_is) (sym f.times_is)

    value_bits : (z m : ℕ) → m < times → bit_and (m * low + free_place low times z) mask ≡ m * low
    value_bits z m k = row_bits (m * low + free_place low times z) ∙ ap (λ (x : ℕ). x * low) (valued_bits z m k)

    pub touches_valued : (z m : ℕ) → 0 < m → m < times → touches mask (m * low + free_place low times z) ≡ true
    unfolding touches
    touches_valued z m h k = ap not (ne_eqb (bit_and (m * low + free_place low times z) mask) 0 (λ e. omega (arith, value_bits z m k, low_pos, mul-le-mul_right low h)))

    pub touches_free : (z : ℕ) → touches mask (free_place low times z) ≡ false
    unfolding touches
    touches_free z = ap not (eq-eqb (bit_and (free_place low times z) mask) 0 (ap (λ (x : ℕ). bit_and x mask) (sym (zero-add (free_place low times z)) ∙ ap (λ (x : ℕ). x + free_place low times z) (sym (zero-mul low))) ∙ value_bits z 0 times_pos ∙ zero-mul low))

    pub cleared_valued : (z m : ℕ) → m < times → cleared (m * low + free_place low times z) mask ≡ free_place low times z
    unfolding cleared
    cleared_valued z m k = omega (arith, value_bits z m k)

-- ---- the places of a row, as the code counts them
pub free_of : {low mask w : ℕ} → Run low mask w → w ≤ 65536 → FreeRun low (mask / low + 1) (w / (mask / low + 1)) × (((mask / low + 1) * (w / (mask / low + 1)) ≡ w) × (mask + low ≡ (mask / low + 1) * low))
free_of {low} {mask} {w} r small = (run, (width_is, block_is))
  where
    low_some : 0 < low
    low_some = rw r.low_is (pow_pos r.below)

    block_pow : mask + low ≡ 2 ^ r.bits * low
    block_pow = r.block_is ∙ pow-add 2 r.bits r.below ∙ ap (λ (x : ℕ). 2 ^ r.bits * x) (sym r.low_is)

    times_is : mask / low + 1 ≡ 2 ^ r.bits
    times_is = sym (add-div_right mask low_some) ∙ ap (λ (x : ℕ). x / low) block_pow ∙ mul-div_cancel (2 ^ r.bits) low_some

    block_is : mask + low ≡ (mask / low + 1) * low
    block_is = block_pow ∙ ap (λ (x : ℕ). x * low) (sym times_is)

    blocks_is : w ≡ (mask / low + 1) * (2 ^ r.above * low)
    blocks_is = r.width_is ∙ ap (λ (x : ℕ). 2 ^ r.above * x) block_is ∙ mul_left_comm (2 ^ r.above) (mask / low + 1) low

    count_is : w / (mask / low + 1) ≡ 2 ^ r.above * low
    count_is = div-eq_of_eq-mul_right (omega arith) blocks_is

    width_is : (mask / low + 1) * (w / (mask / low + 1)) ≡ w
    width_is = ap (λ (x : ℕ). (mask / low + 1) * x) count_is ∙ sym blocks_is

    run : FreeRun low (mask / low + 1) (w / (mask / low + 1))
    run = record { below = r.below; bits = r.bits; above = r.above; low_is = r.low_is; times_is = times_is; count_is = count_is ∙ ap (λ (x : ℕ). 2 ^ r.above * x) r.low_is ∙ sym (pow-add 2 r.above r.below); small = omega (arith, width_is, small) }
