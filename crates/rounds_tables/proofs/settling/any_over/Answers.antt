-- Each listed place is one of the cells.
use Prim.Native.Nat.{◌<◌}
use lib.ListN.{length}
use borrow.Author.Rules.{rules}
use Rattle.std.proofs.lemmas.Iterator.{YieldsList-from_slice}
use Rattle.std.proofs.lemmas.Iterator.Adapters.{serves_from_places}
use Rattle.std.proofs.lemmas.Grind.{get_or_default_zero}
use Rattle.rounds_tables.proofs.settling.any_over.Goals as goal

pub any-requires-clause-callable : goal.any-requires-clause-callable
any-requires-clause-callable c = serves_from_places (YieldsList-from_slice c.args.places.now c.iter.ensures.rest) (λ x q k. search rules) (λ x k h e. let inside : x.now < length c.args.cells.now = rw e (rw (get_or_default_zero c.args.places.now k x.now h) (c.requires k h)) in search rules)
