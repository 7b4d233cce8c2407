-- Laws of a mask that is a run of bits: which places have a bit of it, that the masks of rules 4 and 6 are runs, and a block's steps.
use mathlib.Core.Path.{◌≡◌, refl, sym, ap, ap₂, ◌∙◌}
use mathlib.Core.Bool.{true, false, not}
use mathlib.Core.List.{List}
use Prim.Native.Nat.{ℕ, ◌+◌, ◌-◌, ◌*◌, ◌/◌, ◌%◌, ◌^◌, ◌≤◌, ◌<◌}
use native.Mathlib.Nat.{zero-mul, suc-mul, mod-eq_of_lt, mod-add-mod, div-eq_of_lt, div-add-mod', le-div_iff_mul-le, mul-le-mul_right, lt_of_mul-lt-mul_right}
use native.Mathlib.Omega.{arith}
use lib.Bits.{bit_and, and_high}
use lib.Pow.{pow_pos, pow-add, field}
use borrow.Author.Tests.{eq-eqb, ne_eqb}
use Rattle.plan.specs.Plan.{Plan, width}
use Rattle.plan.proofs.LabelLaws.{four}
use Rattle.rules_fill.specs.Steps.{steps}
use Rattle.rules_fill.specs.Shapes.{link_bit, digit_mask, touches, remove_step}
use Rattle.rules_fill.proofs.StepLaws.{steps_add, steps_pass}
use Rattle.rules_fill.proofs.ShapeLaws.{width_pow, remove_pass}
use Rattle.rules_fill.specs.Cells.{Run}

module _ {low mask w : ℕ} (r : Run low mask w) where
  pub low_pos : 0 < low
  low_pos = rw r.low_is (pow_pos _)

  -- ---- blocks
  pub block_fits : mask + low ≤ w
  block_fits = omega (arith, r.width_is, mul-le-mul_right (mask + low) (pow_pos r.above))

  -- a block that starts in the width ends in it
  pub block_in : (start : ℕ) → start % (mask + low) ≡ 0 → start < w → start + (mask + low) ≤ w
  block_in start e h =
      let q : ℕ = start / (mask + low) in
      let a : q * (mask + low) ≡ start = omega (arith, div-add-mod' start (mask + low)) in
      let b : q < 2 ^ r.above = lt_of_mul-lt-mul_right (mask + low) (omega (arith, r.width_is)) in
      omega (arith, r.width_is, suc-mul q (mask + low), mul-le-mul_right (mask + low) b)

  block_place : (start c : ℕ) → start % (mask + low) ≡ 0 → start ≤ c → c < start + (mask + low) → c % (mask + low) ≡ c - start
  block_place start c e h k =
      let d : c ≡ start + (c - start) = omega arith in
      ap (λ (x : ℕ). x % (mask + low)) d ∙ sym (mod-add-mod start (mask + low) (c - start)) ∙ ap (λ (x : ℕ). (x + (c - start)) % (mask + low)) e ∙ mod-eq_of_lt (omega arith) ∙ omega arith

  -- ---- places
  run_and : (c : ℕ) → bit_and c mask ≡ c % (mask + low) / low * low
  run_and c =
      let e : mask ≡ 2 ^ (r.bits + r.below) - 2 ^ r.below = omega (arith, r.low_is, r.block_is) in
      ap (bit_and c) e ∙ and_high c r.bits r.below ∙ ap (λ (x : ℕ). x * 2 ^ r.below) (sym (field c r.bits r.below)) ∙ ap₂ (λ (b l : ℕ). c % b / l * l) (sym r.block_is) (sym r.low_is)

  -- the first places of a block have no bit of the mask
  pub run_free : (start c : ℕ) → start % (mask + low) ≡ 0 → start ≤ c → c < start + low → touches mask c ≡ false
  unfolding touches
  run_free start c e h k =
      let d : c % (mask + low) < low = rw (block_place start c e h (omega arith)) (omega arith) in
      ap not (eq-eqb (bit_and c mask) 0 (run_and c ∙ ap (λ (x : ℕ). x * low) (div-eq_of_lt d) ∙ zero-mul low))

  -- the others have
  run_touches : (start c : ℕ) → start % (mask + low) ≡ 0 → start + low ≤ c → c < start + (mask + low) → touches mask c ≡ true
  unfolding touches
  run_touches start c e h k =
      let d : 1 * low ≤ c % (mask + low) = rw (block_place start c e (omega arith) k) (omega arith) in
      ap not (ne_eqb (bit_and c mask) 0 (λ z. omega (arith, low_pos, run_and c, mul-le-mul_right low ((le-div_iff_mul-le low_pos).1 d))))

  -- the steps of a run are those of its block
  pub block_made : (m : ℕ) (A : List ℕ) (other add place wait start : ℕ) (B C D : List ℕ) → start % (mask + low) ≡ 0 → C ≡ steps (remove_step m A other mask add place wait) start B → D ≡ steps (λ i. remove_step m A other mask add place wait (start + i)) (start + low - start) C → D ≡ steps (remove_step m A other mask add place wait) (start + (mask + low)) B
  block_made m A other add place wait start B C D e g h =
      let f : ℕ → List ℕ → List ℕ = remove_step m A other mask add place wait in
      let d : start + low - start ≡ low = omega arith in
      h ∙ ap₂ (λ (n : ℕ) (L : List ℕ). steps (λ i. f (start + i)) n L) d g ∙ steps_add f start low B
      ∙ sym (steps_pass f (start + low) (start + (mask + low)) (omega arith) (λ c a b E. sym (remove_pass m A other mask add place wait c E (run_touches start c e a b))) B)

-- ---- the masks of a plan
run_in : (P : Plan) (low mask below bits : ℕ) → bits + below ≤ P.links + 2 * P.propositions → low ≡ 2 ^ below → mask + low ≡ 2 ^ (bits + below) → Run low mask (width P)
run_in P low mask below bits h e f =
    let above : ℕ = P.links + 2 * P.propositions - (bits + below) in
    let d : P.links + 2 * P.propositions ≡ above + (bits + below) = omega arith in
    record { below = below; bits = bits; above = above; low_is = e; block_is = f; width_is = sym (width_pow P) ∙ ap (λ (x : ℕ). 2 ^ x) d ∙ pow-add 2 above (bits + below) ∙ ap (λ (x : ℕ). 2 ^ above * x) (sym f) }

pub link_run : (P : Plan) (i : ℕ) → i < P.links → Run (link_bit P.propositions i) (link_bit P.propositions i) (width P)
unfolding link_bit
link_run P i h = run_in P _ _ (2 * P.propositions + i) 1 (omega arith) refl (omega (arith, pow-add 2 1 (2 * P.propositions + i)))

pub digit_run : (P : Plan) (j : ℕ) → j < P.propositions → Run (4 ^ j) (digit_mask j) (width P)
unfolding digit_mask
digit_run P j h = run_in P _ _ (2 * j) 2 (omega arith) (sym (four j)) (omega (arith, four j, pow-add 2 2 (2 * j)))
