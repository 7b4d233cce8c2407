-- What an edge says where the horizon handed in is the plan's own.
use mathlib.Core.Path.{◌≡◌, ap}
use mathlib.Core.List.{List}
use Prim.Native.Nat.{ℕ}
use Rattle.plan.specs.Plan.{Plan}
use Rattle.plan.specs.Layout.{plan_of}
use Rattle.plan.specs.Horizons.{plan_with}
use Rattle.plan.proofs.Horizons.{own_horizon}
use Rattle.rules.specs.declared.Edge.{Edge}
use Rattle.rules.specs.Rules.{constraint_of}

pub own_constraint : (bs : List ℕ) (h : ℕ) (e : Edge) → h ≡ (plan_of bs).horizon → constraint_of (plan_with bs h) e ≡ constraint_of (plan_of bs) e
own_constraint bs h e own = ap (λ (P : Plan). constraint_of P e) (own_horizon bs h own)
