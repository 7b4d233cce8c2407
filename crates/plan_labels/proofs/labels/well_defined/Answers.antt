-- `plan_labels::labels::well_defined` meets its contract: a plan without labels of points is; of another, each early return rewrites the test that failed, the last one those that held.
use mathlib.Core.Path.{◌≡◌, sym, ◌∙◌}
use mathlib.Core.Bool.{true, and-false}
use mathlib.Core.List.{List}
use Prim.Native.Nat.{ℕ}
use native.Mathlib.Omega.{arith}
use Rattle.plan.specs.Layout.{label_bytes, plan_of}
use Rattle.plan.specs.Refusal.{well_defined}
use Rattle.plan.proofs.Truth.{is_true}
use Rattle.plan.proofs.Unlabelled.{none_well_defined}
use Rattle.plan.proofs.Forms.{label_none}
use Rattle.plan.proofs.Tests.{denied, granted}
use Rattle.std.proofs.Common.{rules}
use Rattle.plan_labels.proofs.labels.well_defined.Goals as goal
use Rattle.plan_labels.proofs.labels.well_defined.Goals.{then-edges_well_defined, else-edges_well_defined}

without : (bs : List ℕ) → label_bytes bs ≡ 0 → true ≡ well_defined (plan_of bs)
without bs e = sym (is_true (well_defined (plan_of bs)) (none_well_defined (plan_of bs) (λ x. label_none bs x (omega arith))))

pub returns-then-label_bytes-eq0 : goal.returns-then-label_bytes-eq0
returns-then-label_bytes-eq0 c = without _ (omega arith)

pub returns-then-points_well_defined : goal.returns-then-points_well_defined
unfolding well_defined
returns-then-points_well_defined c = elim c.if-edges_well_defined.branch [
  | then-edges_well_defined w ↦ simp (granted c.edges_well_defined.ensures w.if-edges_well_defined.true, granted w.points_well_defined.ensures (sym w.value-is ∙ c.if-points_well_defined.true)) c.links_well_defined.ensures
  | else-edges_well_defined w ↦ search rules
]

pub returns-else-points_well_defined : goal.returns-else-points_well_defined
unfolding well_defined
returns-else-points_well_defined c = c.if-points_well_defined.false ∙ elim c.if-edges_well_defined.branch [
  | then-edges_well_defined w ↦ simp (denied w.points_well_defined.ensures (sym w.value-is ∙ c.if-points_well_defined.false), and-false)
  | else-edges_well_defined w ↦ simp (denied c.edges_well_defined.ensures w.if-edges_well_defined.false)
]
