-- For inner contracts only: what a row's removal is lent where it may go by halves. Nothing here is to be believed.
use Rattle.rules_fill.specs.declared.shapes.Remover.{Remover}
use Rattle.rules_fill.specs.Parts.{AtMost}
use Rattle.rules_listed.specs.declared.part.Part.{Part}
use Rattle.rules_listed.specs.declared.table.Table.{Table}
use Rattle.rules_listed.specs.Listed.{RemoveLent}

-- what the pairs are lent, and waits to which a duration can be added in 32 bits
pub record HalvesLent (t : Table) (by : Remover) (p : Part) : Type 0 where
  pub by_pairs : RemoveLent t by p
  pub bound : AtMost 4000000000 t.first.now
