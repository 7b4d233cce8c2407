-- `plan_refusal::refusals::refusal` meets its contract: at each return the tests before it passed.
use mathlib.Core.Path.{◌≡◌, sym, subst}
use mathlib.Core.Bool.{Bool, true, false, cond, not}
use Prim.Native.Nat.{ℕ, ◌≤◌}
use borrow.Author.Tests.{le-ltb, lt-ltb}
use lib.Dec.{T, leb→le}
use lib.Ieee.Fits.{and_l, and_r}
use Rattle.plan.specs.Plan.{Plan}
use Rattle.plan.specs.Refusal.{sizes_fit, refusal_of, refusal}
use Rattle.plan.proofs.Tests.{granted}
use Rattle.plan_refusal.proofs.refusals.refusal.Goals as goal

stop : (b : Bool) (x y : ℕ) → b ≡ true → x ≡ cond b x y
stop b x y e = rw e

skip : (b : Bool) (r x y : ℕ) → b ≡ false → r ≡ y → r ≡ cond b x y
skip b r x y e q = rw e q

told : (r b t : Bool) → r ≡ b → not r ≡ t → not b ≡ t
told r b t e h = rw (← e) h

few : (P : Plan) → sizes_fit P ≡ true → P.propositions ≤ 4
unfolding sizes_fit
few P e =
    let t : T (sizes_fit P) = subst T (sym e) tt in
    leb→le P.propositions 4 (search (and_l, and_r))

ruleset order = (stop, skip, told, lt-ltb, le-ltb)

pub returns-then-plan-lt4 : goal.returns-then-plan-lt4
unfolding refusal_of refusal
returns-then-plan-lt4 c = search order depth 12

pub returns-then-not-sizes_fit : goal.returns-then-not-sizes_fit
unfolding refusal_of refusal
returns-then-not-sizes_fit c = search order depth 12

pub returns-then-not-length_fits : goal.returns-then-not-length_fits
unfolding refusal_of refusal
returns-then-not-length_fits c = search order depth 12

pub returns-then-not-observers_fit : goal.returns-then-not-observers_fit
unfolding refusal_of refusal
returns-then-not-observers_fit c = search order depth 12

pub point_labels_fit-requires : goal.point_labels_fit-requires
point_labels_fit-requires c = search (few, granted)

pub returns-then-not-point_labels_fit : goal.returns-then-not-point_labels_fit
unfolding refusal_of refusal
returns-then-not-point_labels_fit c = search order depth 12

pub returns-then-not-links_fit : goal.returns-then-not-links_fit
unfolding refusal_of refusal
returns-then-not-links_fit c = search order depth 12

pub edges_fit-requires : goal.edges_fit-requires
edges_fit-requires c = search (few, granted)

pub returns-then-not-edges_fit : goal.returns-then-not-edges_fit
unfolding refusal_of refusal
returns-then-not-edges_fit c = search order depth 12

pub well_defined-requires : goal.well_defined-requires
well_defined-requires c = search (few, granted)

pub returns-then-not-well_defined : goal.returns-then-not-well_defined
unfolding refusal_of refusal
returns-then-not-well_defined c = search order depth 12

pub returns : goal.returns
unfolding refusal_of refusal
returns c = search order depth 12
