-- `rules::edges::constraint_of` meets its contract: the edge is what the match found, so its row fits a byte.
use mathlib.Core.Path.{◌≡◌, subst}
use mathlib.Core.List.{List}
use Prim.Native.Nat.{ℕ, ◌<◌}
use Rattle.plan.specs.Layout.{plan_of}
use Rattle.plan.specs.Refusal.{Accepted}
use Rattle.plan.proofs.Ranges.{edge_byte, link_byte}
use Rattle.rules.specs.declared.Edge.{Edge}
use Rattle.rules.specs.declared.Edge.TheVariants.{PlanEdge, UpperBound, LowerBound}
use Rattle.rules.specs.declared.Rule.TheVariants.{Propagation}
use Rattle.rules.specs.Derivations.{InPlan}
use Rattle.rules.proofs.edges.constraint_of.Goals as goal

module _ (bs : List ℕ) (e : Edge) (accepted : Accepted bs) (row : InPlan (plan_of bs) (Propagation e)) where
  row_of : (d : Edge) → e ≡ d → InPlan (plan_of bs) (Propagation d)
  row_of d q = subst (λ (d : Edge). InPlan (plan_of bs) (Propagation d)) q row

  edge_number_lem : (i : ℕ) → e ≡ PlanEdge i → i < 256
  edge_number_lem i q = edge_byte bs accepted i (row_of (PlanEdge i) q)

  upper_number : (i : ℕ) → e ≡ UpperBound i → i < 256
  upper_number i q = link_byte bs accepted i (row_of (UpperBound i) q)

  lower_number : (i : ℕ) → e ≡ LowerBound i → i < 256
  lower_number i q = link_byte bs accepted i (row_of (LowerBound i) q)

ruleset numbers = (edge_number_lem, upper_number, lower_number)

pub edge_from-requires : goal.edge_from-requires
edge_from-requires c = search numbers

pub edge_to-requires : goal.edge_to-requires
edge_to-requires c = search numbers

pub edge_label-requires : goal.edge_label-requires
edge_label-requires c = search numbers

pub edge_up-requires : goal.edge_up-requires
edge_up-requires c = search numbers

pub edge_down-requires : goal.edge_down-requires
edge_down-requires c = search numbers

pub link_activation-requires : goal.link_activation-requires
link_activation-requires c = search numbers

pub link_finish-requires : goal.link_finish-requires
link_finish-requires c = search numbers

pub link_most-requires : goal.link_most-requires
link_most-requires c = search numbers

pub link_finish-requires-in-LowerBound : goal.link_finish-requires-in-LowerBound
link_finish-requires-in-LowerBound c = search numbers

pub link_activation-requires-in-LowerBound : goal.link_activation-requires-in-LowerBound
link_activation-requires-in-LowerBound c = search numbers

pub link_least-requires : goal.link_least-requires
link_least-requires c = search numbers
