-- For inner contracts only: what the methods that put text into a lent buffer ask, and what they leave there. Nothing here is to be believed.
use Rattle.std.specs.Prelude.{◌≡◌, List, ℕ, ◌+◌, ◌≤◌, length}
use Rattle.std.specs.Borrow.{MutBor}
use Rattle.std.proofs.lemmas.List.Edits.{sets}
use Rattle.text.specs.declared.buffer.TextBuffer.{TextBuffer}

-- the text's length is still a small number with this behind it
pub record HasRoom (text : List ℕ) (b : TextBuffer) : Type 0 where
  pub room : b.length + length text ≤ 1000000

-- nothing was put into the lent bytes yet
pub record IsEmptyIn (out : MutBor (List ℕ)) (b : TextBuffer) : Type 0 where
  pub same_reference : b.out.ghost_name ≡ out.ghost_name
  pub out_is : b.out.now ≡ out.now
  pub length_is : b.length ≡ 0

-- the text was put behind what was there, into the same lent bytes, as much of it as fits
pub record Puts (text : List ℕ) (old new : TextBuffer) : Type 0 where
  pub same_reference : new.out.ghost_name ≡ old.out.ghost_name
  pub length_is : new.length ≡ old.length + length text
  pub out_is : new.out.now ≡ sets old.out.now old.length text
