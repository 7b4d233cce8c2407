-- A cell is a starting cell where the width divides it, which the mask tells.
use native.Mathlib.Omega.{arith}
use Rattle.listing_write.proofs.IndexStores.{start_other, start_point, quotient_fits}
use Rattle.listing_write.proofs.index.start_number.Goals as goal

pub returns-then-c-width-eq0 : goal.returns-then-c-width-eq0
returns-then-c-width-eq0 c = (λ P e. start_point P c.args.width c.args.c e c.if-c-width-eq0.true, quotient_fits c.args.c c.args.width 65536 c.requires.1)

pub returns-else-c-width-eq0 : goal.returns-else-c-width-eq0
returns-else-c-width-eq0 c = (λ P e. start_other P c.args.width c.args.c e c.if-c-width-eq0.false, omega arith)
