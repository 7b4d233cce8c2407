-- A run of the whole plan tells whether it is broken, and leaves only cells of the tables changed.
use mathlib.Core.Path.{refl, sym, ◌∙◌}
use Rattle.rounds.proofs.Checking.{own_lent}
use Rattle.minimal_rows.proofs.AnswerLaws.{run_kept, run_broken}
use Rattle.minimal_rows.proofs.reducing.reduce_broken.Goals as goal

pub run_from_zeros-whole-requires : goal.run_from_zeros-whole-requires
run_from_zeros-whole-requires c = own_lent _ _ _ _ c.requires.0 c.horizon.ensures.0 c.requires.1.tables.long_first c.requires.1.tables.long_second

pub returns-then-not-is_broken : goal.returns-then-not-is_broken
returns-then-not-is_broken c = run_kept c.args.plan.now _ _ _ c.requires.0 c.requires.1 _ _ _ c.horizon.ensures.0 c.enough_rounds.ensures c.run_from_zeros-whole.ensures (sym c.is_broken.ensures ∙ c.if-not-is_broken.true) refl

pub returns : goal.returns
returns c = run_broken c.args.plan.now _ _ _ c.requires.0 c.requires.1 _ _ _ _ _ c.horizon.ensures.0 c.enough_rounds.ensures c.run_from_zeros-whole.ensures (sym c.is_broken.ensures ∙ c.if-not-is_broken.false) _ c.reduce.ensures
