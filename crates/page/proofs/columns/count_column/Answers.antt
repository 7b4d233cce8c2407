-- A set below 16 has at most four ones, which are its links.
use mathlib.Core.Path.{ap}
use Prim.Native.Nat.{ℕ, ◌+◌}
use native.Mathlib.Omega.{arith}
use lib.Count.{ones-le}
use Rattle.page.proofs.ColumnLaws.{ones_links}
use Rattle.page.proofs.columns.count_column.Goals as goal

pub overflow_cast-result-2 : goal.overflow_cast-result-2
overflow_cast-result-2 c = record { fits = omega (arith, ones-le 4 c.args.set c.requires) }

pub overflow_add-result : goal.overflow_add-result
overflow_add-result c = record { fits = omega (arith, ones-le 4 c.args.set c.requires) }

pub returns : goal.returns
returns c = ap (λ (n : ℕ). 48 + n) (ones_links c.args.set c.requires)
