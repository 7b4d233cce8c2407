-- The entry of each proposition is its observing point.
use Rattle.std.proofs.Common.{rules}
use native.Mathlib.Omega.{arith}
use Rattle.plan.proofs.Ranges.{accepted_bounded}
use Rattle.rules_rows.proofs.reading.read_observers.Goals as goal

pub returns : goal.returns
returns c = record { observer_is = λ j h. let r = c.from_fn.ensures.items.at j 0 (omega (arith, (accepted_bounded _ c.requires).propositions_in)) in search (rules, r.2) }
