-- The two loops raise what all pairs of lines raise.
use mathlib.Core.Path.{sym, subst}
use Rattle.rules_listed.specs.Rows.{LinesRow}
use Rattle.rules_listed.proofs.Going.{same_then, cells_long}
use Rattle.rules_listed.proofs.Lending.{still_lent}
use Rattle.rules_listed.proofs.Rests.{remove_all}
use Rattle.rules_listed.proofs.table.Table.remove_pairs.Goals as goal

pub remove_by_raised-requires : goal.remove_by_raised-requires
remove_by_raised-requires c = let r = c.requires.remove_rest in
    let s = c.remove_raised.ensures.same_part in
    record { remove_lent = still_lent c.requires.remove_lent s; rows = (r.other.raised, subst (LinesRow c.args.self.now) (sym s.point) r.own.lines) }

pub returns-clause-cells_value : goal.returns-clause-cells_value
returns-clause-cells_value c = let l = c.requires.remove_lent in
    let r = c.requires.remove_rest in
    remove_all _ _ _ _ _ _ _ _ _ l.joins (cells_long l.part_of) r.own.raised.places r.other.lines.places r.other.raised.places r.own.lines.places r.rest c.remove_raised.ensures.cells_value
    (rw c.remove_raised.ensures.same_part.point at c.remove_by_raised.ensures.cells_value)

pub returns-clause-same_part : goal.returns-clause-same_part
returns-clause-same_part c = same_then c.remove_raised.ensures.same_part c.remove_by_raised.ensures.same_part
