-- A plan with a horizon handed in: with its own it is the same plan, and with none shorter it is well-formed too.
use mathlib.Core.Path.{◌≡◌, ap}
use mathlib.Core.List.{List}
use Prim.Native.Nat.{ℕ, ◌≤◌}
use native.Mathlib.Nat.{le_trans}
use Rattle.plan.specs.Plan.{Plan}
use Rattle.plan.specs.Layout.{plan_of}
use Rattle.plan.specs.Horizons.{with_horizon, plan_with}
use Rattle.plan.specs.Refusal.{Accepted}
use Rattle.plan.proofs.Ranges.{WellFormed, accepted_well_formed}

pub own_horizon : (bs : List ℕ) (h : ℕ) → h ≡ (plan_of bs).horizon → plan_with bs h ≡ plan_of bs
own_horizon bs h e = ap (with_horizon (plan_of bs)) e

pub farther_well_formed : {P : Plan} → WellFormed P → (h : ℕ) → P.horizon ≤ h → WellFormed (with_horizon P h)
farther_well_formed wf h k = record {
  two = wf.two;
  observer_in = wf.observer_in;
  activation_in = wf.activation_in;
  finish_in = wf.finish_in;
  durations = wf.durations;
  from_in = wf.from_in;
  to_in = wf.to_in;
  label_in = wf.label_in;
  label_plain = wf.label_plain;
  most_le = wf.most_le;
  down_le = wf.down_le;
  horizon_far = le_trans wf.horizon_far k;
  observer_once = wf.observer_once;
  finish_once = wf.finish_once;
  finish_observes_none = wf.finish_observes_none;
}

pub with_well_formed : (bs : List ℕ) → Accepted bs → (h : ℕ) → (plan_of bs).horizon ≤ h → WellFormed (plan_with bs h)
with_well_formed bs accepted = farther_well_formed (accepted_well_formed bs accepted)
