-- The link's activation and its end one after the other.
use mathlib.Core.Path.{ap, ◌∙◌}
use Rattle.rules_fill.specs.Shapes.{fill_finish}
use Rattle.rules_listed.proofs.Going.{same_then}
use Rattle.rules_refill.specs.Refills.{whole, waits}
use Rattle.rules_refill.specs.Removals.{link_in}
use Rattle.rules_refill.proofs.Refills.{still_in}
use Rattle.rules_refill.proofs.refill.Refill.link_in.Goals as goal

pub finish_in-requires : goal.finish_in-requires
finish_in-requires c = record { part_of = still_in c.requires.part_of c.activation_in.ensures.same_part; i_bound = c.requires.i_bound }

pub returns : goal.returns
unfolding link_in
returns c = let r = c.args.self.now in
    let s = c.activation_in.ensures.same_part in
    record { cells_value = rw s.point at c.finish_in.ensures.cells_value ∙ ap (fill_finish (whole r) (waits r) c.args.part.now.point c.args.i) c.activation_in.ensures.cells_value; same_part = same_then s c.finish_in.ensures.same_part }
