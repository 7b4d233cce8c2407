-- A refusal leaves the tables as they were; else the rounds run from zeros with the plan's own horizon.
use mathlib.Core.Path.{◌≡◌, sym}
use mathlib.Core.Bool.{true}
use mathlib.Core.Logic.{⊎_elim}
use native.Mathlib.Omega.{arith}
use Rattle.std.proofs.lemmas.Result.{err_from_is_err_and}
use Rattle.plan.specs.Layout.{plan_of}
use Rattle.plan.proofs.Ranges.{sizes_few}
use Rattle.rounds.specs.CheckOutcomes.{is_too_short}
use Rattle.rounds.proofs.Checking.{checked, own_lent, after_refusal, refused_outcome, refused_table, short_outcome, short_table, short_first, short_second, number_some}
use Rattle.rounds.proofs.running.check.Goals as goal
use Rattle.rounds.proofs.running.check.Goals.{Joined-then-first-end}

pub returns-in_err-refusal : goal.returns-in_err-refusal
returns-in_err-refusal c =
    let p = err_from_is_err_and c.from_residual.result c.from_residual.ensures.1 in
    let bs = c.args.plan.now in
    let F = c.args.first.now in
    let G = c.args.second.now in
    let e = c.in_err-refusal.ensures in
    let n = number_some c.in_err-refusal.field-0.0 in
    rw (p.1, p.2) (after_refusal bs c.args.limit _ _ _ (refused_outcome bs F G c.args.limit _ e n) (refused_table bs F G c.args.limit _ e n F) (refused_table bs F G c.args.limit _ e n G))

pub cells-end-requires : goal.cells-end-requires
cells-end-requires c = sizes_few c.args.plan.now (sym c.in_ok-refusal.ensures)

-- one of the tables has fewer entries than there are cells
short : (c : Joined-then-first-end) → is_too_short (plan_of c.args.plan.now) c.args.first.now c.args.second.now ≡ true
short c = let P = plan_of c.args.plan.now in
    ⊎_elim (λ f. short_first P c.args.first.now c.args.second.now (omega arith)) (λ g. short_second P c.args.first.now c.args.second.now (omega (arith, g.0)) (omega (arith, g.1))) c.then-first-end.either

pub returns-then-first-end : goal.returns-then-first-end
returns-then-first-end c =
    let bs = c.args.plan.now in
    let F = c.args.first.now in
    let G = c.args.second.now in
    let a = sym c.in_ok-refusal.ensures in
    let h = short c in
    after_refusal bs c.args.limit 6 _ _ (short_outcome bs F G c.args.limit a h) (short_table bs F G c.args.limit a h F) (short_table bs F G c.args.limit a h G)

pub run_from_zeros-requires : goal.run_from_zeros-requires
run_from_zeros-requires c = own_lent _ _ _ _ (sym c.in_ok-refusal.ensures) c.horizon.ensures.0 (omega arith) (omega arith)

pub returns : goal.returns
returns c = checked c.args.plan.now (sym c.in_ok-refusal.ensures) c.args.limit _ _ _ (omega arith) (omega arith) _ c.horizon.ensures.0 c.run_from_zeros.ensures
