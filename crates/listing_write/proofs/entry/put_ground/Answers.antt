-- Three words, one after the other.
use mathlib.Core.Path.{refl, ◌∙◌}
use mathlib.Core.List.{◌++◌}
use Prim.Native.Nat.{◌+◌}
use Rattle.listing_write.specs.Entry.{word_bytes}
use Rattle.listing_write.proofs.EntryBytes.{sets_on}
use Rattle.listing_write.proofs.entry.put_ground.Goals as goal

pub returns : goal.returns
returns c = let s = c.args in
    let p = c.put_word in
    let q = c.put_word-2 in
    let r = c.put_word-3 in
    let e = sets_on (word_bytes s.row) (word_bytes s.first) s.out.now _ _ s.at (s.at + 2) refl p.ensures.out_value q.ensures.out_value in
    record { out_value = sets_on (word_bytes s.row ++ word_bytes s.first) (word_bytes s.second) s.out.now _ _ s.at (s.at + 4) refl e r.ensures.out_value; same_length = r.ensures.same_length ∙ q.ensures.same_length ∙ p.ensures.same_length }
