-- The first entries are lent, and the others stay.
use mathlib.Core.Path.{sym}
use borrow.Author.Rules.{rules}
use lib.Seq.{length-take-le}
use Rattle.rules_dense.proofs.RoomLaws.{halve_lent, product_whole}
use Rattle.rules_dense.proofs.dense.give_pairs.Goals as goal

pub slice_bounds-halve-end : goal.slice_bounds-halve-end
slice_bounds-halve-end c = sym (length-take-le _ _ c.requires.long_own)

pub slice_bounds-halve-end-3 : goal.slice_bounds-halve-end-3
slice_bounds-halve-end-3 c = sym (length-take-le _ _ c.requires.long_given)

pub halve-requires : goal.halve-requires
halve-requires c = halve_lent _ _ _ c.requires

pub returns : goal.returns
returns c = record { product = product_whole _ _ _ c.requires _ c.halve.ensures.same_length.1 c.halve.ensures.product; same_length = (search rules, search rules) }
