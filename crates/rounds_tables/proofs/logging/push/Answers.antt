-- Where the log has room, it has one entry more; where it has none, it begins with no more entries than it did.
use mathlib.Core.Path.{refl}
use native.Mathlib.Omega.{arith}
use lib.ListN.{length-set}
use Rattle.rounds_tables.proofs.LogLaws.{logged_more, logged_full}
use Rattle.rounds_tables.proofs.logging.push.Goals as goal

pub returns-then-at-log : goal.returns-then-at-log
returns-then-at-log c = record { by_index = λ es l. logged_more es _ _ _ l (omega arith); upper_bound = simp length-set (omega arith); same_length = simp length-set }

pub returns : goal.returns
returns c = record { by_index = λ es l. logged_full es _ _ _ l (omega arith); upper_bound = c.requires; same_length = refl }
