-- The text for an input of over 832 bytes is the same whatever they are, so the first 833 bytes of an input tell the text for it.
use Rattle.std.proofs.Common.{◌≡◌, ◌≢◌, ◌<◌, ℕ, List, [], ◌++◌, None, Some, IfSome, arith, length, ap, sym, ◌∙◌, refl, subst, append-nil, length-append, inl, inr}
use Rattle.std.specs.declared.option.Option.{Option}
use Rattle.std.specs.Io.KnownBytes.{Consumes, IsAtEnd}
use Rattle.std.proofs.lemmas.Bool.Decides.{eqb_tells}
use borrow.Author.Tests.{lt-ltb}
use Rattle.plan.specs.Layout.{most_bytes}
use Rattle.report.specs.Text.{text_of}
use Rattle.report.specs.Printed.{program_outcome, printed}

module _ (F G : List ℕ) where
  both_long : (bs cs : List ℕ) → most_bytes < length bs → most_bytes < length cs → printed bs F G ≡ printed cs F G
  unfolding printed program_outcome text_of
  both_long bs cs h k = rw (lt-ltb most_bytes (length bs) h, lt-ltb most_bytes (length cs) k) refl

  -- the bytes bs were read, and what is left is ys: nothing, unless 833 were read
  same_text : (bs ys : List ℕ) → (length bs ≢ 833 → ys ≡ []) → printed bs F G ≡ printed (bs ++ ys) F G
  same_text bs ys end = elim (eqb_tells (length bs) 833) [
    | inl w ↦ both_long bs (bs ++ ys) (omega (arith, w.1)) (omega (arith, w.1, length-append bs ys))
    | inr w ↦ ap (λ l. printed l F G) (sym (append-nil bs) ∙ ap (λ l. bs ++ l) (sym (end w.1)))
  ]

  -- what holds of the text for the bytes read holds of the text for all bytes that there were
  pub of_read : (a b : Option (List ℕ)) (bs : List ℕ) (P : List ℕ → Type 0) → (length bs ≢ 833 → IsAtEnd b) → Consumes a b bs → P (printed bs F G) → IfSome a (λ xs. P (printed xs F G))
  of_read None b bs P end p h = tt
  of_read (Some xs) None bs P end p h = absurd p
  of_read (Some xs) (Some ys) bs P end p h = subst P (same_text bs ys end ∙ ap (λ l. printed l F G) (sym p)) h
