-- The marks of the rows are taken away for the trial, and given back where it is not broken.
use Rattle.minimal_rows.proofs.MarkLaws.{some_left_out, some_stay}
use Rattle.minimal_rows.proofs.trials.Trials.try_some.Goals as goal

pub returns-then-tried : goal.returns-then-tried
returns-then-tried c = some_left_out c.args.self.now.plan.now c.args.self.now.trying.accepted c.args.i c.args.n _ _ c.args.marks.now c.requires.marks_lent.0 c.requires.marks_lent.1 c.requires.marks_value _ c.mark_rows.ensures.marks_value _ c.trial-tried.ensures c.if-tried.true

pub returns : goal.returns
returns c = some_stay c.args.self.now.plan.now c.args.self.now.trying.accepted c.args.i c.args.n _ _ c.args.marks.now c.requires.marks_lent.0 c.requires.marks_lent.1 c.requires.marks_value _ _ c.mark_rows.ensures.marks_value c.mark_rows-2.ensures.marks_value _ c.trial-tried.ensures c.if-tried.false
