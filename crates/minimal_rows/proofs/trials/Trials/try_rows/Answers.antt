-- The loop's invariant: the marks are those of the rows tried so far.
use native.Mathlib.Omega.{arith}
use Rattle.minimal_rows.specs.Reducing.{plan_in}
use Rattle.minimal_rows.proofs.ProcedureLaws.{tried_length}
use Rattle.minimal_rows.proofs.MarkLaws.{edges_few, tried_none, still_lent, front_is}
use Rattle.minimal_rows.proofs.trials.Trials.try_rows.Goals as goal

pub new-at-requires : goal.new-at-requires
new-at-requires c = edges_few c.args.self.now.plan.now c.args.self.now.trying.accepted _ c.edges-n.ensures.0

pub loop-at-init : goal.loop-at-init
loop-at-init c = let a = c.new-at in (omega (arith, a.ensures), rw a.ensures (tried_none (plan_in c.args.self.now) c.args.first.now c.args.second.now c.args.marks.now c.requires.marks_value))

pub try_some-out-requires : goal.try_some-out-requires
try_some-out-requires c = let l = c.loop-at in
    record { marks_lent = (still_lent _ _ _ _ _ _ _ _ l.invariant.1 c.requires.marks_lent, omega (arith, c.min-some.ensures, c.edges-n.ensures.0)); marks_value = front_is _ _ _ _ _ _ _ _ l.invariant.1 (tried_length _ _) }

pub advance-at-requires : goal.advance-at-requires
advance-at-requires c = let l = c.loop-at in
    let few = edges_few c.args.self.now.plan.now c.args.self.now.trying.accepted _ c.edges-n.ensures.0 in
    (omega (arith, c.min-some.ensures, l.at.within.some_rows), omega (arith, c.min-some.ensures), omega (arith, c.min-some.ensures, few))
