-- What a search knows of an edge's row is what the edge says.
use mathlib.Core.Path.{◌≡◌, refl, ap, ◌∙◌}
use mathlib.Core.List.{List}
use Prim.Native.Nat.{ℕ, ◌<◌}
use Rattle.plan.specs.Layout.{plan_of}
use Rattle.plan.specs.Horizons.{plan_with}
use Rattle.rules.specs.declared.Edge.{Edge}
use Rattle.rules.specs.declared.Constraint.{Constraint}
use Rattle.rules.specs.declared.Rule.TheVariants.{Propagation}
use Rattle.rules.specs.Rules.{constraint_of}
use Rattle.rules.proofs.Constraints.{own_constraint}
use Rattle.rules_ground.specs.Rows.{RowOf}

-- the horizon handed in is the plan's own
pub constraint_row : (bs : List ℕ) (h : ℕ) (e : Edge) (c : Constraint) → h ≡ (plan_of bs).horizon → c ≡ constraint_of (plan_with bs h) e → c.down < 65536
    → RowOf (plan_of bs) (Propagation e) (record { first = c.to; second = 0; removed = 0; up = c.up; down = c.down })
constraint_row bs h e c own q small =
    let is = q ∙ own_constraint bs h e own in
    record { first_is = ap (λ (d : Constraint). d.to) is; second_is = refl; removed_is = refl; up_is = ap (λ (d : Constraint). d.up) is; down_is = ap (λ (d : Constraint). d.down) is; down_small = small }
