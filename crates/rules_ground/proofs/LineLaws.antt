-- Shifts and masks take a cell apart into its line, whose parts fit a listing's bytes.
use mathlib.Core.Path.{◌≡◌, sym, ap, ap₂, subst, ◌∙◌}
use mathlib.Core.Bool.{true}
use mathlib.Core.List.{List, []}
use Prim.Native.Nat.{ℕ, ◌+◌, ◌-◌, ◌*◌, ◌/◌, ◌%◌, ◌^◌, ◌≤◌, ◌<◌}
use native.Mathlib.Nat.{pow-le-pow_right}
use native.Mathlib.Omega.{arith}
use lib.Bits.{bit_and, and_mask}
use lib.Dec.{eqb}
use lib.ListN.{get_or}
use lib.Pow.{pow-add}
use borrow.Author.Tests.{lt-ltb, le-ltb}
use Rattle.plan.specs.Plan.{Plan, width, cells}
use Rattle.plan.specs.Layout.{plan_of}
use Rattle.plan.specs.Refusal.{Accepted}
use Rattle.plan.proofs.LabelLaws.{four}
use Rattle.plan.proofs.Places.{label_and}
use Rattle.plan.proofs.Ranges.{accepted_bounded}
use Rattle.plan.proofs.Widths.{labels_small}
use Rattle.rules.specs.declared.Line.{Line}
use Rattle.rules.proofs.Cells.{at_range}
use Rattle.rules_ground.specs.declared.Frame.{Frame}
use Rattle.rules_ground.specs.Grounds.{holds_line}
use Rattle.rules_ground.specs.Rows.{cut_place}
use Rattle.rules_ground.specs.Frames.{Framed, Fitting, line_with, LineMade, LineRead}

-- the code's line of cell c, by shifts and masks
abbrev shifted : Frame → ℕ → ℕ → Line
shifted f c w = record { point = c / 2 ^ f.bits / 2 ^ f.links; set = bit_and (c / 2 ^ f.bits) f.sets; label = bit_and c f.labels; wait = w }

-- ---- whether a cell holds a line; the width is a power of 2
pub width_and : (k p c : ℕ) → bit_and c (2 ^ k * 4 ^ p - 1) ≡ c % (2 ^ k * 4 ^ p)
width_and k p c =
    let e : 2 ^ (k + 2 * p) ≡ 2 ^ k * 4 ^ p = pow-add 2 k (2 * p) ∙ ap (λ (x : ℕ). 2 ^ k * x) (four p) in
    rw e at (and_mask c (k + 2 * p))

module _ (P : Plan) (T : List ℕ) (c : ℕ) where
  pub holds_above : 0 < get_or T c 0 → true ≡ holds_line P T c
  unfolding holds_line
  holds_above h = rw (lt-ltb 0 (get_or T c 0) h)

  pub holds_start : (w : ℕ) → get_or T c 0 ≤ 0 → w ≡ width P → eqb (bit_and c (w - 1)) 0 ≡ holds_line P T c
  unfolding holds_line
  holds_start w h e = rw (le-ltb 0 (get_or T c 0) h, e) (ap (λ (x : ℕ). eqb x 0) (width_and P.links P.propositions c))

-- ---- its line
module _ (P : Plan) (f : Frame) (c w : ℕ) (framed : Framed P f) where
  high : c / 2 ^ f.bits ≡ c / 4 ^ P.propositions
  high = ap (λ (x : ℕ). c / 2 ^ x) framed.bits_is ∙ ap (λ (x : ℕ). c / x) (four P.propositions)

  point_is : c / 2 ^ f.bits / 2 ^ f.links ≡ c / 4 ^ P.propositions / 2 ^ P.links
  point_is = ap (λ (x : ℕ). x / 2 ^ f.links) high ∙ ap (λ (x : ℕ). c / 4 ^ P.propositions / 2 ^ x) framed.links_is

  set_is : bit_and (c / 2 ^ f.bits) f.sets ≡ c / 4 ^ P.propositions % 2 ^ P.links
  set_is = ap (λ (x : ℕ). bit_and x f.sets) high ∙ ap (λ (x : ℕ). bit_and (c / 4 ^ P.propositions) x) framed.sets_is ∙ and_mask (c / 4 ^ P.propositions) P.links

  label_is : bit_and c f.labels ≡ c % 4 ^ P.propositions
  label_is = ap (λ (x : ℕ). bit_and c x) framed.labels_is ∙ label_and P.propositions c

  line_is : shifted f c w ≡ line_with P c w
  line_is = λ i. record { point = point_is i; set = set_is i; label = label_is i; wait = w }

line_fits : (plan : List ℕ) → Accepted plan → (c w : ℕ) → c < cells (plan_of plan) → w < 4294967296 → Fitting (line_with (plan_of plan) c w)
line_fits plan a c w h small =
    let d = accepted_bounded plan a in
    let r = at_range (plan_of plan) [] c h in
    let s : 2 ^ (plan_of plan).links ≤ 2 ^ 4 = pow-le-pow_right {n = 2} (omega arith) d.links_in in
    record { point_fits = omega (arith, r.point_in, d.points_in); set_fits = omega (arith, r.set_in); label_fits = omega (arith, r.label_in, labels_small (plan_of plan).propositions d.propositions_in); wait_fits = small }

module _ (f : Frame) (c w : ℕ) where
  pub line_made : LineMade f c w (shifted f c w)
  line_made = record {
    is_line = λ P q. line_is P f c w q;
    fits = λ plan a q h small. subst Fitting (sym (line_is (plan_of plan) f c w q)) (line_fits plan a c w h small);
  }

  -- with the wait that a table holds
  pub line_read : (T : List ℕ) (l : Line) → w ≡ get_or T c 0 → w < 4294967296 → LineMade f c w l → LineRead T f c l
  line_read T l e small m = record { is_line = λ P q. m.is_line P q ∙ ap (line_with P c) e; fits = λ plan a q h. m.fits plan a q h small }

-- ---- the place of a line, its set and label cut by the masks
pub cut_is : (P : Plan) (f : Frame) (l : Line) (q : ℕ) → Framed P f → q ≡ 4 ^ P.propositions → bit_and l.set f.sets * q + bit_and l.label f.labels ≡ cut_place P l
cut_is P f l q framed e = rw (framed.sets_is, framed.labels_is, e) (ap₂ (λ (s a : ℕ). s * 4 ^ P.propositions + a) (and_mask l.set P.links) (label_and P.propositions l.label))
