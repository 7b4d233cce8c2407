-- The row is what the edge says.
use mathlib.Core.Path.{◌≡◌, refl, ap}
use Prim.Native.Nat.{◌<◌}
use Rattle.plan.specs.Plan.{Plan}
use Rattle.rules.specs.declared.Edge.{Edge}
use Rattle.rules.specs.declared.Constraint.{Constraint}
use Rattle.rules.specs.Rules.{constraint_of}
use Rattle.rules_fill.specs.Rows.{EdgeRow}
use Rattle.rules_fill.proofs.rows.edge_row.Goals as goal

row_is : (P : Plan) (e : Edge) (c : Constraint) → c ≡ constraint_of P e → c.down < 65536 → EdgeRow P e (record { from = c.to; avoid = 0; add = c.label; up = c.up; down = c.down })
row_is P e c q h = record { from_is = ap (λ (d : Constraint). d.to) q; avoid_is = refl; add_is = ap (λ (d : Constraint). d.label) q; up_is = ap (λ (d : Constraint). d.up) q; down_is = ap (λ (d : Constraint). d.down) q; down_small = h }

pub returns : goal.returns
returns c = row_is _ _ _ c.constraint_of-edge.ensures.value c.constraint_of-edge.ensures.label_bound.1
