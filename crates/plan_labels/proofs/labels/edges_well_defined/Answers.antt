-- Without propositions every edge passes; else the loop looks at each.
use mathlib.Core.Path.{◌≡◌, sym}
use Prim.Native.Nat.{ℕ}
use native.Mathlib.Omega.{arith}
use lib.Dec.{T as Is}
use Rattle.std.proofs.Common.{rules}
use Rattle.plan.specs.Layout.{plan_of}
use Rattle.plan.specs.Plan.{Plan}
use Rattle.plan.specs.Refusal.{every, contains_label, contains_observers, edge_well_defined}
use Rattle.plan.proofs.Chains.{every_from_all}
use Rattle.plan.proofs.Ranges.{every_of}
use Rattle.plan.proofs.Truth.{is_true}
use Rattle.plan_labels.proofs.labels.edges_well_defined.Goals as goal

no_digits : (P : Plan) → P.propositions ≡ 0 → (i : ℕ) → Is (edge_well_defined P i)
unfolding edge_well_defined contains_label contains_observers every
no_digits P e i = rw e tt

pub returns-then-propositions-eq0 : goal.returns-then-propositions-eq0
returns-then-propositions-eq0 c =
    let P : Plan = plan_of c.args.plan.now in
    sym (is_true (every (edge_well_defined P) P.edges) (every_of (edge_well_defined P) P.edges (λ i h. no_digits P (omega arith) i)))

pub returns : goal.returns
returns c = every_from_all _ c.edges.ensures.0 (λ x b q k. search rules) c.all.ensures.ran
