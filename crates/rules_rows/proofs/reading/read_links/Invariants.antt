-- The loop's invariant: the links passed are read.
use Rattle.std.proofs.Common.{◌≡◌, ℕ, ◌<◌}
use lib.ListN.{length, get_or}
use Rattle.plan.specs.Layout.{plan_of}
use Rattle.rules_rows.specs.RowsRead.{no_link, link_of}
use Rattle.rules_rows.proofs.reading.read_links.Given as goal

abbrev pub invariant-loop-i : goal.invariant-loop-i
invariant-loop-i l = (length l.read ≡ 4) × ((i : ℕ) → i < l.i → get_or l.read i no_link ≡ link_of (plan_of l.plan) i)
