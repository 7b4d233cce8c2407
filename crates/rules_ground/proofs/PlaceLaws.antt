-- A rule's parents by their places and waits: the bits and the wait that the line which it gives has of theirs.
use mathlib.Core.Path.{◌≡◌, refl, sym, ap, ap₂, ◌∙◌}
use mathlib.Core.Bool.{true, false, not}
use Prim.Native.Nat.{ℕ, ◌+◌, ◌-◌, ◌*◌, ◌/◌, ◌%◌, ◌^◌, ◌≤◌, ◌<◌, min}
use native.Mathlib.Nat.{mod-eq_of_lt, lt_of_le_of_lt}
use native.Mathlib.Omega.{arith}
use lib.Bits.{bit_and, bit_or, and_zero_r, or_zero_r, and_comm, and_le_l, or_add_and}
use lib.Dec.{T as Is, eqb}
use borrow.Author.Tests.{eq-eqb, not-true}
use Rattle.plan.specs.Label.{digit, join, clear_digit}
use Rattle.plan.specs.LinkSet.{contains, insert, remove}
use Rattle.plan.specs.Plan.{Plan}
use Rattle.plan.proofs.LabelLaws.{clear_le}
use Rattle.plan.proofs.Places.{link_test, digit_test, or_label, or_link, or_places, clear_link, clear_place}
use Rattle.plan.proofs.Ranges.{WellFormed}
use Rattle.plan.proofs.Truth.{is_not}
use Rattle.rules.specs.declared.Line.{Line}
use Rattle.rules.specs.declared.Rule.{Rule}
use Rattle.rules.specs.declared.Rule.TheVariants.{Propagation, LowerCase, UpperCase, LetterRemoval, OwnLiteral, LiteralRemoval}
use Rattle.rules.specs.Rules.{constraint_of, fires, result, uses_second}
use Rattle.rules.specs.Derivations.{InPlan}
use Rattle.rules.proofs.Deriving.{fires_facts}
use Rattle.rules.proofs.InRange.{InRange, edge_range, result_range}
use Rattle.rules.proofs.Cells.{digit_div, digit_mod}
use Rattle.rules_fill.specs.Shapes.{link_bit, digit_mask}
use Rattle.rules_ground.specs.Places.{Within}
use Rattle.rules_ground.specs.Rows.{cut_place, place_of, removed_bits, up_of, down_of}
use Rattle.rules_ground.proofs.AnswerLaws.{false_true}
use Rattle.rules_ground.proofs.NextLaws.{and_within, within_or, within_cleared}

-- the bits that a rule joins to what it leaves of its first parent's place
added_bits : Plan → Rule → Line → ℕ
added_bits P (Propagation e) m = (constraint_of P e).label
added_bits P (LowerCase i) m = 0
added_bits P (UpperCase i) m = link_bit P.propositions i
added_bits P (LetterRemoval i) m = place_of P m
added_bits P (OwnLiteral j) m = 0
added_bits P (LiteralRemoval j) m = place_of P m

no_bits : (t : ℕ) → t - bit_and t 0 ≡ t
no_bits t = omega (arith, and_zero_r t)

module _ (P : Plan) where
  module _ (l : Line) (inside : l.label < 4 ^ P.propositions) where
    set_of : place_of P l / 4 ^ P.propositions ≡ l.set
    set_of = digit_div l.set (4 ^ P.propositions) l.label inside

    label_of : place_of P l % 4 ^ P.propositions ≡ l.label
    label_of = digit_mod l.set (4 ^ P.propositions) l.label inside

    letter_joined : (i : ℕ) → bit_or (place_of P l) (link_bit P.propositions i) ≡ insert l.set i * 4 ^ P.propositions + l.label
    unfolding link_bit
    letter_joined i = or_link P.propositions (place_of P l) i ∙ ap₂ (λ (s a : ℕ). insert s i * 4 ^ P.propositions + a) set_of label_of

    label_joined : (b : ℕ) → b < 4 ^ P.propositions → bit_or (place_of P l) b ≡ l.set * 4 ^ P.propositions + join P.propositions b l.label
    label_joined b h = or_label P.propositions (place_of P l) b h ∙ ap₂ (λ (s a : ℕ). s * 4 ^ P.propositions + join P.propositions b a) set_of label_of

    letter_left : (i : ℕ) → place_of P l - bit_and (place_of P l) (link_bit P.propositions i) ≡ remove l.set i * 4 ^ P.propositions + l.label
    unfolding link_bit
    letter_left i = clear_link P.propositions (place_of P l) i ∙ ap₂ (λ (s a : ℕ). remove s i * 4 ^ P.propositions + a) set_of label_of

    literal_left : (j : ℕ) → j < P.propositions → place_of P l - bit_and (place_of P l) (digit_mask j) ≡ l.set * 4 ^ P.propositions + clear_digit l.label j
    unfolding digit_mask
    literal_left j h = clear_place P.propositions (place_of P l) j h ∙ ap₂ (λ (s a : ℕ). s * 4 ^ P.propositions + clear_digit a j) set_of label_of

module _ (P : Plan) (wf : WellFormed P) where
  result_place : (r : Rule) → InPlan P r → (l m : Line) → InRange P l → InRange P m → place_of P (result P r l m) ≡ bit_or (place_of P l - bit_and (place_of P l) (removed_bits P r)) (added_bits P r m)
  unfolding added_bits
  result_place (Propagation e) h l m a b = sym (ap (λ (t : ℕ). bit_or t (constraint_of P e).label) (no_bits (place_of P l)) ∙ label_joined P l a.label_in (constraint_of P e).label (edge_range P wf e h).label_in)
  result_place (LowerCase i) h l m a b = sym (or_zero_r _ ∙ no_bits (place_of P l))
  result_place (UpperCase i) h l m a b = sym (ap (λ (t : ℕ). bit_or t (link_bit P.propositions i)) (no_bits (place_of P l)) ∙ letter_joined P l a.label_in i)
  result_place (LetterRemoval i) h l m a b = sym (ap (λ (t : ℕ). bit_or t (place_of P m)) (letter_left P l a.label_in i) ∙ or_places P.propositions (remove l.set i) m.set l.label m.label a.label_in b.label_in)
  result_place (OwnLiteral j) h l m a b = sym (or_zero_r _ ∙ literal_left P l a.label_in j h)
  result_place (LiteralRemoval j) h l m a b = sym (ap (λ (t : ℕ). bit_or t (place_of P m)) (literal_left P l a.label_in j h) ∙ or_places P.propositions l.set m.set (clear_digit l.label j) m.label (lt_of_le_of_lt (clear_le l.label j) a.label_in) b.label_in)

  -- the place of a line in range, whatever is cut
  cut_place_lem : (k : Line) → InRange P k → cut_place P k ≡ place_of P k
  cut_place_lem k h = ap₂ (λ (s a : ℕ). s * 4 ^ P.propositions + a) (mod-eq_of_lt h.set_in) (mod-eq_of_lt h.label_in)

  -- the place of the line that a rule gives, by those of its parents
  given_place : (r : Rule) → InPlan P r → (l m k : Line) → InRange P l → InRange P m → result P r l m ≡ k → cut_place P k ≡ bit_or (place_of P l - bit_and (place_of P l) (removed_bits P r)) (added_bits P r m)
  given_place r h l m k a b q = ap (cut_place P) (sym q) ∙ cut_place_lem _ (result_range P wf r h l m a b) ∙ result_place r h l m a b

  -- so the first parent's place has no bit besides the line's and those that the rule removes
  pub first_within : (r : Rule) → InPlan P r → (l m k : Line) → InRange P l → InRange P m → result P r l m ≡ k → Within (bit_or (cut_place P k) (removed_bits P r)) (place_of P l)
  first_within r h l m k a b q = ap (λ (x : ℕ). bit_and (place_of P l) (bit_or x (removed_bits P r))) (given_place r h l m k a b q) ∙ within_cleared (place_of P l) (removed_bits P r) (added_bits P r m)

second_added : (P : Plan) (r : Rule) (m : Line) → uses_second r ≡ true → added_bits P r m ≡ place_of P m
unfolding added_bits
second_added P (Propagation e) m t = absurd (false_true t)
second_added P (LowerCase i) m t = absurd (false_true t)
second_added P (UpperCase i) m t = absurd (false_true t)
second_added P (LetterRemoval i) m t = refl
second_added P (OwnLiteral j) m t = absurd (false_true t)
second_added P (LiteralRemoval j) m t = refl

-- one number joined with another: the other has the bits outside the first, and some of those within
pub joined_second : (K rest u : ℕ) → K ≡ bit_or rest u → Within (bit_and K rest) (bit_and u rest) × (K - bit_and K rest + bit_and u rest ≡ u)
joined_second K rest u e =
    let s : bit_and K rest ≡ rest = ap (λ (x : ℕ). bit_and x rest) e ∙ and_comm (bit_or rest u) rest ∙ within_or rest u in
    (ap (bit_and (bit_and u rest)) s ∙ and_within u rest, omega (arith, or_add_and rest u, and_comm rest u, and_le_l u rest))

module _ (P : Plan) (wf : WellFormed P) where
  pub second_joined : (r : Rule) → uses_second r ≡ true → InPlan P r → (l m k : Line) → InRange P l → InRange P m → result P r l m ≡ k → cut_place P k ≡ bit_or (place_of P l - bit_and (place_of P l) (removed_bits P r)) (place_of P m)
  second_joined r t h l m k a b q = given_place P wf r h l m k a b q ∙ ap (bit_or (place_of P l - bit_and (place_of P l) (removed_bits P r))) (second_added P r m t)

-- ---- what a first parent has of the bits that rules 4 and 6 remove
module _ (P : Plan) where
  untouched_link : (l : Line) (i : ℕ) → l.label < 4 ^ P.propositions → bit_and (place_of P l) (link_bit P.propositions i) ≡ 0 → Is (contains l.set i) → ⊥
  unfolding link_bit
  untouched_link l i a z c = is_not {b = contains l.set i} (not-true _ (ap not (ap (λ (s : ℕ). contains s i) (sym (set_of P l a))) ∙ sym (link_test P.propositions i (place_of P l)) ∙ eq-eqb _ 0 z)) c

  untouched_digit : (l : Line) (j : ℕ) → l.label < 4 ^ P.propositions → j < P.propositions → bit_and (place_of P l) (digit_mask j) ≡ 0 → Is (not (eqb (digit l.label j) 0)) → ⊥
  unfolding digit_mask
  untouched_digit l j a h z c = is_not {b = not (eqb (digit l.label j) 0)} (ap not (ap (λ (s : ℕ). eqb (digit s j) 0) (sym (label_of P l a)) ∙ sym (digit_test P.propositions j (place_of P l) h) ∙ eq-eqb _ 0 z)) c

  pub untouched : (r : Rule) → uses_second r ≡ true → InPlan P r → (l m : Line) → InRange P l → bit_and (place_of P l) (removed_bits P r) ≡ 0 → Is (fires P r l m) → ⊥
  untouched (Propagation e) t h l m a z f = absurd (false_true t)
  untouched (LowerCase i) t h l m a z f = absurd (false_true t)
  untouched (UpperCase i) t h l m a z f = absurd (false_true t)
  untouched (LetterRemoval i) t h l m a z f = untouched_link l i a.label_in z (fires_facts P (LetterRemoval i) l m f).0
  untouched (OwnLiteral j) t h l m a z f = absurd (false_true t)
  untouched (LiteralRemoval j) t h l m a z f = untouched_digit l j a.label_in h z (fires_facts P (LiteralRemoval j) l m f).0

  -- ---- waits
  pub one_enough : (r : Rule) → uses_second r ≡ false → (l m : Line) → Is (fires P r l m) → up_of P r ≤ l.wait + down_of P r
  one_enough (Propagation e) t l m f = omega (arith, (fires_facts P (Propagation e) l m f).3)
  one_enough (LowerCase i) t l m f = omega (arith, (fires_facts P (LowerCase i) l m f).3)
  one_enough (UpperCase i) t l m f = omega arith
  one_enough (LetterRemoval i) t l m f = absurd (false_true (sym t))
  one_enough (OwnLiteral j) t l m f = omega arith
  one_enough (LiteralRemoval j) t l m f = absurd (false_true (sym t))

  pub one_waits : (r : Rule) → uses_second r ≡ false → (l m : Line) → (result P r l m).wait ≡ l.wait + down_of P r - up_of P r
  one_waits (Propagation e) t l m = refl
  one_waits (LowerCase i) t l m = omega arith
  one_waits (UpperCase i) t l m = omega arith
  one_waits (LetterRemoval i) t l m = absurd (false_true (sym t))
  one_waits (OwnLiteral j) t l m = omega arith
  one_waits (LiteralRemoval j) t l m = absurd (false_true (sym t))

  pub two_wait : (r : Rule) → uses_second r ≡ true → (l m : Line) → (result P r l m).wait ≡ min l.wait (m.wait + down_of P r)
  two_wait (Propagation e) t l m = absurd (false_true t)
  two_wait (LowerCase i) t l m = absurd (false_true t)
  two_wait (UpperCase i) t l m = absurd (false_true t)
  two_wait (LetterRemoval i) t l m = refl
  two_wait (OwnLiteral j) t l m = absurd (false_true t)
  two_wait (LiteralRemoval j) t l m = omega arith
