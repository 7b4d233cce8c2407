-- A cell that was not raised keeps its number.
use mathlib.Core.Path.{refl}
use Prim.Native.Nat.{◌<◌}
use native.Mathlib.Omega.{arith}
use lib.ListN.{get_or, length-set}
use Rattle.listing_write.proofs.IndexStores.{cell_unnumbered, cell_counted, cell_numbered}
use Rattle.listing_write.proofs.index.number_cell.Goals as goal

pub returns-then-second-c : goal.returns-then-second-c
returns-then-second-c c = let s = c.args in
    record { value = λ P. (cell_unnumbered P s.first.now s.second.now 0 s.i s.c s.index.now c.if-second-c.true).0; cell_numbered = λ P at e k. (cell_unnumbered P s.first.now s.second.now at s.i s.c s.index.now c.if-second-c.true).1; same_length = refl }

pub returns : goal.returns
returns c = let s = c.args in
    let h : get_or s.first.now s.c 0 < get_or s.second.now s.c 0 = omega (arith, c.if-second-c.false) in
    record { value = λ P. cell_counted P s.first.now s.second.now s.i s.c h; cell_numbered = λ P at e k. cell_numbered P s.first.now s.second.now at s.i s.c s.index.now _ h e k refl; same_length = length-set _ _ _ }
