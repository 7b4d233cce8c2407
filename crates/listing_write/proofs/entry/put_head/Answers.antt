-- Four bytes and two words, one after the other.
use mathlib.Core.Path.{refl, ◌∙◌}
use mathlib.Core.List.{[], ◌∷◌}
use Prim.Native.Nat.{◌+◌, ◌/◌, ◌%◌}
use lib.ListN.{length-set}
use Rattle.listing_write.specs.Entry.{word_bytes}
use Rattle.listing_write.proofs.EntryBytes.{sets_on}
use Rattle.listing_write.proofs.entry.put_head.Goals as goal

pub returns : goal.returns
returns c = let s = c.args in
    let u = c.put_word in
    let v = c.put_word-2 in
    let l = s.line in
    let e1 = sets_on (l.point ∷ []) (l.set ∷ []) s.out.now _ _ s.at (s.at + 1) refl refl refl in
    let e2 = sets_on (l.point ∷ l.set ∷ []) (l.label ∷ []) s.out.now _ _ s.at (s.at + 2) refl e1 refl in
    let e3 = sets_on (l.point ∷ l.set ∷ l.label ∷ []) (s.rule ∷ []) s.out.now _ _ s.at (s.at + 3) refl e2 refl in
    let e4 = sets_on (l.point ∷ l.set ∷ l.label ∷ s.rule ∷ []) (word_bytes (l.wait / 65536)) s.out.now _ _ s.at (s.at + 4) refl e3 u.ensures.out_value in
    record { out_value = sets_on (l.point ∷ l.set ∷ l.label ∷ s.rule ∷ word_bytes (l.wait / 65536)) (word_bytes (l.wait % 65536)) s.out.now _ _ s.at (s.at + 6) refl e4 v.ensures.out_value; same_length = v.ensures.same_length ∙ u.ensures.same_length ∙ length-set _ _ _ ∙ length-set _ _ _ ∙ length-set _ _ _ ∙ length-set _ _ _ }
