-- Laws of the 16-bit table: the start, and one raised cell's number after another.
use mathlib.Core.Path.{◌≡◌, refl, sym, ap, ◌∙◌}
use mathlib.Core.List.{List, [], ◌∷◌, ◌++◌, append-nil, append_assoc}
use Prim.Native.Nat.{ℕ, suc, ◌+◌, ◌-◌, ◌/◌, ◌%◌, ◌≤◌, ◌<◌}
use native.Mathlib.Nat.{div-le_self, one-le-mul}
use native.Mathlib.Decide.{ℕ_discrete}
use native.Mathlib.Numerals.{add-one}
use native.Mathlib.Omega.{arith}
use borrow.Author.Tests.{lt-ltb, le-ltb, eq-eqb, ne_eqb}
use lib.Bits.{bit_and}
use lib.ListN.{length, get_or, set, length-append}
use lib.Seq.{get_or-set_same, get_or-set_other}
use lib.Pow.{pow_pos}
use Rattle.plan.specs.Plan.{Plan, width, cells}
use Rattle.plan.specs.Layout.{plan_of}
use Rattle.plan.specs.Refusal.{Accepted}
use Rattle.plan.proofs.LabelLaws.{four_pos}
use Rattle.plan.proofs.Ranges.{accepted_bounded}
use Rattle.rules.specs.declared.Line.{Line}
use Rattle.rules.specs.Lines.{cell_of, line_at}
use Rattle.rules.proofs.Cells.{cell_at}
use Rattle.rules_ground.proofs.LineLaws.{width_and}
use Rattle.listing_lines.specs.Listed.{cell_lines, raised_lines, start_number, index_at, index_table}
use Rattle.listing_write.specs.Progress.{Numbered}
use Rattle.listing_lines.proofs.IndexLaws.{index_by, index_more}
use Rattle.listing_lines.proofs.LineCounts.{raised_within}

-- ---- the start
-- by a mask, since the width is a power of 2
start_mask : (P : Plan) (w c : ℕ) → w ≡ width P → bit_and c (w - 1) ≡ c % width P
start_mask P w c e = rw e (width_and P.links P.propositions c)

pub start_other : (P : Plan) (w c : ℕ) → w ≡ width P → (bit_and c (w - 1) ≡ 0 → ⊥) → 0 ≡ start_number P c
start_other P w c e h = rw (ne_eqb (c % width P) 0 (λ q. h (start_mask P w c e ∙ q))) refl

pub start_point : (P : Plan) (w c : ℕ) → w ≡ width P → bit_and c (w - 1) ≡ 0 → c / w ≡ start_number P c
start_point P w c e h = rw (eq-eqb (c % width P) 0 (sym (start_mask P w c e) ∙ h), e) refl

pub quotient_fits : (c w n : ℕ) → c < n → c / w < n
quotient_fits c w n h = omega (arith, div-le_self c w)

pub width_pos : (P : Plan) (w : ℕ) → w ≡ width P → 0 < w
width_pos P w e = rw e (one-le-mul (pow_pos _) (four_pos _))

-- the first c cells have their starting numbers
pub record Started (P : Plan) (c : ℕ) (I : List ℕ) : Type 0 where
  pub number : (d : ℕ) → d < c → get_or I d 0 ≡ start_number P d

module _ (P : Plan) where
  pub started_none : (I : List ℕ) → Started P 0 I
  started_none I = record { number = λ d h. absurd (omega arith) }

  pub started_more : (c v : ℕ) (I J : List ℕ) → c < length I → v ≡ start_number P c → J ≡ set I c v → Started P c I → Started P (c + 1) J
  started_more c v I J h e q s = record { number = λ d k. ap (λ (x : List ℕ). get_or x d 0) q ∙ go d k (ℕ_discrete d c) }
    where
      go : (d : ℕ) → d < c + 1 → Dec (d ≡ c) → get_or (set I c v) d 0 ≡ start_number P d
      go d k (yes z) = ap (λ (x : ℕ). get_or (set I c v) x 0) z ∙ get_or-set_same I c v 0 h ∙ e ∙ ap (start_number P) (sym z)
      go d k (no z) = get_or-set_other I c d v 0 z ∙ s.number d (omega arith)

  pub started_all : (c : ℕ) (I : List ℕ) → c ≡ cells P → length I ≡ cells P → Started P c I → I ≡ index_table P []
  unfolding index_at
  started_all c I e l s = index_by P [] I l (λ d h. s.number d (omega arith))

  -- ---- the numbers of a round
  pub numbered_none : (at : ℕ) (I : List ℕ) → Numbered P at [] I I
  numbered_none at I = record { numbers = λ ls h e. e ∙ ap (index_table P) (sym (append-nil ls)) }

  pub numbered_then : (at to : ℕ) (ks js : List Line) (I J K : List ℕ) → to ≡ at + length ks → Numbered P at ks I J → Numbered P to js J K → Numbered P at (ks ++ js) I K
  numbered_then at to ks js I J K e s t = record { numbers = λ ls h q. t.numbers (ls ++ ks) (length-append ls ks ∙ ap (λ (x : ℕ). x + length ks) h ∙ sym e) (s.numbers ls h q) ∙ ap (index_table P) (append_assoc ls ks js) }

  -- one line's cell
  pub numbered_one : (at c v : ℕ) (l : Line) (I J : List ℕ) → cell_of P l ≡ c → c < cells P → v ≡ P.points + at → J ≡ set I c v → Numbered P at (l ∷ []) I J
  numbered_one at c v l I J k h e q = record { numbers = λ ls n z. q ∙ index_more P ls l I c v k h (e ∙ ap (λ (x : ℕ). P.points + x) (sym n)) z }

  module _ (T U : List ℕ) where
    pub number_start : (at : ℕ) (I : List ℕ) → (P.points + at ≡ P.points + at + length (raised_lines P T U 0)) × Numbered P at (raised_lines P T U 0) I I
    unfolding raised_lines
    number_start at I = (omega arith, numbered_none at I)

    pub cell_unnumbered : (at i c : ℕ) (I : List ℕ) → get_or U c 0 ≤ get_or T c 0 → (i ≡ i + length (cell_lines P T U c)) × Numbered P at (cell_lines P T U c) I I
    unfolding cell_lines
    cell_unnumbered at i c I h = rw (le-ltb (get_or T c 0) (get_or U c 0) h) (omega arith, numbered_none at I)

    pub cell_counted : (i c : ℕ) → get_or T c 0 < get_or U c 0 → i + 1 ≡ i + length (cell_lines P T U c)
    unfolding cell_lines
    cell_counted i c h = rw (lt-ltb (get_or T c 0) (get_or U c 0) h) refl

    pub cell_numbered : (at i c : ℕ) (I J : List ℕ) → get_or T c 0 < get_or U c 0 → i ≡ P.points + at → c < cells P → J ≡ set I c i → Numbered P at (cell_lines P T U c) I J
    unfolding cell_lines
    cell_numbered at i c I J h e k q = rw (lt-ltb (get_or T c 0) (get_or U c 0) h) (numbered_one at c i (line_at P U c) I J (cell_at P U c) k e q)

    pub numbered_more : (at i n c : ℕ) (I J K : List ℕ) → i ≡ P.points + at + length (raised_lines P T U c) → n ≡ i + length (cell_lines P T U c) → Numbered P at (raised_lines P T U c) I J → Numbered P (at + length (raised_lines P T U c)) (cell_lines P T U c) J K
        → (n ≡ P.points + at + length (raised_lines P T U (c + 1))) × Numbered P at (raised_lines P T U (c + 1)) I K
    unfolding raised_lines
    numbered_more at i n c I J K e f s t =
        let k : c + 1 ≡ suc c = add-one c in
        (rw k (omega (arith, length-append (raised_lines P T U c) (cell_lines P T U c))), rw k (numbered_then at (at + length (raised_lines P T U c)) (raised_lines P T U c) (cell_lines P T U c) I J K refl s t))

-- the numbers of at most 4,096 lines fit 16 bits
pub number_fits : (bs : List ℕ) → Accepted bs → (T U : List ℕ) (at c : ℕ) → c ≤ cells (plan_of bs) → at + length (raised_lines (plan_of bs) T U (cells (plan_of bs))) ≤ 4096 → (plan_of bs).points + at + length (raised_lines (plan_of bs) T U c) < 65536
number_fits bs a T U at c h k =
    let z : c + (cells (plan_of bs) - c) ≡ cells (plan_of bs) = omega arith in
    let w = raised_within (plan_of bs) T U c (cells (plan_of bs) - c) in
    omega (arith, rw z at w, (accepted_bounded bs a).points_in)
