-- Nothing where the starting line is the point's only line, else what the row's removal makes.
use native.Mathlib.Omega.{arith}
use lib.ListN.{length}
use mathlib.Core.Path.{ap, ◌∙◌}
use Rattle.rules_listed.proofs.Going.{entries_long}
use Rattle.rules_refill.proofs.Refills.{lent_of}
use Rattle.rules_refill.proofs.TableOf.{point_rows}
use Rattle.rules_refill.proofs.Removals.{removal_lends, removal_by, removal_none}
use Rattle.rules_refill.proofs.refill.Refill.removal_in.Goals as goal

pub lines-requires : goal.lines-requires
lines-requires c = (point_rows c.args.self.now c.args.part.now.point (lent_of c.args.self.now c.requires.part_of).point_in).lines

pub returns-then-lines-lt2-clause-cells_value : goal.returns-then-lines-lt2-clause-cells_value
returns-then-lines-lt2-clause-cells_value c = let r = c.args.self.now in
    let o = c.requires.part_of in
    let n = ap length c.lines.ensures ∙ entries_long _ _ _ (point_rows r c.args.part.now.point (lent_of r o).point_in).lines.places.long in
    removal_none (lent_of r o) (omega (arith, n, c.if-lines-lt2.true)) _ _

pub remove_row-requires : goal.remove_row-requires
remove_row-requires c = let l = removal_lends c.args.self.now c.requires.part_of _ _ c.removal_row-by.ensures c.requires.r_bound in
    record { remove_lent = l.0; run = l.1.0; remove_rest = l.1.1 }

pub returns-clause-cells_value : goal.returns-clause-cells_value
returns-clause-cells_value c = removal_by (lent_of c.args.self.now c.requires.part_of) _ _ c.removal_row-by.ensures _ _ c.remove_row.ensures.cells_value
