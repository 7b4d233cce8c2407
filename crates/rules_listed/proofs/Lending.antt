-- What a row's loop is lent: by the number of raised places that the table counts, and for the part as a call before left it.
use mathlib.Core.List.{List}
use Prim.Native.Nat.{ℕ, ◌*◌}
use lib.ListN.{get_or}
use Rattle.rules_fill.specs.declared.shapes.Propagator.{Propagator}
use Rattle.rules_fill.specs.declared.shapes.Remover.{Remover}
use Rattle.rules_listed.specs.declared.part.Part.{Part}
use Rattle.rules_listed.specs.declared.table.Table.{Table}
use Rattle.rules_listed.specs.Parts.{SamePart}
use Rattle.rules_listed.specs.Listed.{PropagateRaisedLent, PropagateLent, RemoveLent, ClearRaisedLent, ClearLent}
use Rattle.rules_listed.proofs.Going.{still_of}

pub propagate_counted : {t : Table} {marks : List ℕ} {mask : ℕ} {by : Propagator} {p : Part} → PropagateLent t marks mask by p → PropagateRaisedLent t (get_or t.counts.now (2 * by.from) 0) marks mask by p
propagate_counted l = record { marked = l.marked; mask_small = l.mask_small; bound = l.bound; down_small = l.down_small; from_in = l.from_in; raised = l.raised.places; joins = l.joins; part_of = l.part_of; rest = l.rest }

pub clear_counted : {t : Table} {mask : ℕ} {p : Part} → ClearLent t mask p → ClearRaisedLent t (get_or t.counts.now (2 * p.point) 0) mask p
clear_counted l = record { part_of = l.part_of; raised = l.raised.places; rest = l.rest }

pub still_lent : {t : Table} {by : Remover} {p q : Part} → RemoveLent t by p → SamePart p q → RemoveLent t by q
still_lent l s = record { other_in = l.other_in; joins = l.joins; add_small = l.add_small; part_of = still_of l.part_of s }
