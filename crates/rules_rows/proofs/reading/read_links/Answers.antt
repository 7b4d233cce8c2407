-- There are at most four links, and each turn reads one more.
use native.Mathlib.Omega.{arith}
use lib.ListN.{length-set}
use Rattle.std.proofs.lemmas.List.Edits.{fill_by_more}
use Rattle.plan.specs.Layout.{plan_of}
use Rattle.plan.proofs.Ranges.{accepted_bounded}
use Rattle.rules_rows.specs.RowsRead.{no_link, link_of}
use Rattle.rules_rows.proofs.reading.read_links.Goals as goal

pub read_link-requires : goal.read_link-requires
read_link-requires c = omega (arith, (accepted_bounded _ c.requires).links_in)

pub bounds-read-i : goal.bounds-read-i
bounds-read-i c = omega (arith, (accepted_bounded _ c.requires).links_in)

pub loop-i-preserved : goal.loop-i-preserved
loop-i-preserved c = (simp length-set c.loop-i.invariant.0, rw c.read_link.ensures (fill_by_more (link_of (plan_of c.args.plan.now)) c.loop-i.read c.loop-i.i no_link (omega (arith, (accepted_bounded _ c.requires).links_in)) c.loop-i.invariant.1))
