-- The rows with mark 1 are listed, and a trial of the list is one of the marks.
use native.Mathlib.Omega.{arith}
use Rattle.plan.proofs.Ranges.{accepted_bounded}
use Rattle.minimal_rows.proofs.TrialsMade.{listed_in}
use Rattle.minimal_rows.proofs.trials.Trials.trial.Goals as goal

pub marked_rows-count-requires : goal.marked_rows-count-requires
marked_rows-count-requires c = (omega (arith, c.edges.ensures.0, c.requires.long_marks), omega (arith, c.edges.ensures.0, (accepted_bounded c.args.self.now.plan.now c.args.self.now.trying.accepted).edges_in))

pub run_rows-requires-clause-tables_lent : goal.run_rows-requires-clause-tables_lent
run_rows-requires-clause-tables_lent c = let m = c.marked_rows-count in
    let e = c.edges in
    (c.requires.tables, listed_in c.args.self.now.plan.now c.args.marks.now c.args.self.now.trying.accepted _ _ e.result m.result e.ensures.0 c.requires.long_marks m.ensures.value m.ensures.numbers_value)
