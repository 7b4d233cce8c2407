-- Laws of tests, which replay cites, and that a rule can be applied to a line of an accepted plan.
use mathlib.Core.Path.{◌≡◌, sym, ◌∙◌}
use mathlib.Core.Bool.{Bool, true, false, not, ◌&&◌, and-false}
use mathlib.Core.List.{List}
use Prim.Native.Nat.{ℕ, ◌^◌, ◌≤◌, ◌<◌}
use native.Mathlib.Nat.{lt_of_lt_of_le, pow-le-pow_right}
use native.Mathlib.Omega.{arith}
use borrow.Author.Tests.{not-true, not-false}
use Rattle.plan.specs.Label.{plain}
use Rattle.plan.specs.Layout.{plan_of}
use Rattle.plan.specs.Refusal.{Accepted}
use Rattle.plan.proofs.LabelLaws.{plain_more}
use Rattle.plan.proofs.Ranges.{accepted_bounded}
use Rattle.rules.specs.declared.Line.{Line}
use Rattle.rules_apply.specs.Applicable.{InLabels, InByte}

-- ---- the outcome of a conjunction of tests
pub both : (a b : Bool) → a ≡ true → b ≡ true → (a && b) ≡ true
both a b p q = rw (p, q)

pub first_fails : (a b : Bool) → a ≡ false → (a && b) ≡ false
first_fails a b p = rw p

pub rest_fails : (a b : Bool) → b ≡ false → (a && b) ≡ false
rest_fails a b p = rw (p, and-false)

-- ---- a test that the code calls, or calls and negates
turned : (r t : Bool) → not r ≡ not t → r ≡ t
turned r true h = not-false r h
turned r false h = not-true r h

pub told : (r b t : Bool) → r ≡ b → r ≡ t → b ≡ t
told r b t e h = sym e ∙ h

pub told_not : (r b t : Bool) → r ≡ b → not r ≡ not t → b ≡ t
told_not r b t e h = sym e ∙ turned r t h

-- the table's four digits tell whether p digits are plain
pub told_plain : (p a : ℕ) (r t : Bool) → p ≤ 4 → a < 4 ^ p → r ≡ plain 4 a → not r ≡ not t → plain p a ≡ t
told_plain p a r t few h e n = sym (plain_more p 4 a few h) ∙ told_not r (plain 4 a) t e n

-- ---- the lines
-- a line of an accepted plan has a byte for its label
module _ (bs : List ℕ) (l : Line) (accepted : Accepted bs) (h : InLabels (plan_of bs) l) where
  pub label_byte : l.label < 256
  label_byte = lt_of_lt_of_le h.label_in (pow-le-pow_right {n = 4} (omega arith) (accepted_bounded bs accepted).propositions_in)

  pub in_byte : InByte (plan_of bs) l
  in_byte = record { in_labels = h; few = (accepted_bounded bs accepted).propositions_in; label_byte = label_byte }
