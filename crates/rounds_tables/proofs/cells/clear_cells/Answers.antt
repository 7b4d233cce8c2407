-- Zeros in place of the first n cells.
use Rattle.rounds_tables.proofs.RoundLaws.{laid_zeros}
use Rattle.rounds_tables.proofs.cells.clear_cells.Goals as goal

pub returns-clause-table_value : goal.returns-clause-table_value
returns-clause-table_value c = laid_zeros _ _ _ c.requires (c.fill.ensures.after (λ y h. h))
