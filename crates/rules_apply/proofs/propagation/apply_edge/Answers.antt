-- `rules_apply::propagation::apply_edge` meets its contract: what `along` gives for what the edge says.
use mathlib.Core.Path.{◌≡◌, subst, ◌∙◌}
use mathlib.Core.List.{List}
use Prim.Native.Nat.{ℕ}
use borrow.Author.Rules.{rules}
use Rattle.plan.specs.Layout.{plan_of}
use Rattle.plan.specs.Horizons.{plan_with}
use Rattle.plan.specs.Refusal.{Accepted}
use Rattle.plan.proofs.Ranges.{accepted_well_formed, accepted_bounded}
use Rattle.rules.specs.declared.Line.{Line}
use Rattle.rules.specs.declared.Edge.{Edge}
use Rattle.rules.specs.declared.Constraint.{Constraint}
use Rattle.rules.specs.declared.Rule.TheVariants.{Propagation}
use Rattle.rules.specs.Rules.{constraint_of}
use Rattle.rules.specs.Derivations.{InPlan}
use Rattle.rules.proofs.Constraints.{own_constraint}
use Rattle.rules.proofs.InRange.{edge_range}
use Rattle.std.specs.Prelude.{Option}
use Rattle.rules_apply.specs.Applying.{applied}
use Rattle.rules_apply.specs.Applicable.{Along, InLabels}
use Rattle.rules_apply.proofs.ApplyLaws.{label_byte}
use Rattle.rules_apply.proofs.propagation.apply_edge.Goals as goal

along_edge_lem : (bs : List ℕ) (h : ℕ) (e : Edge) (c : Constraint) (l : Line) (r : Option Line) → Accepted bs → InPlan (plan_of bs) (Propagation e) → InLabels (plan_of bs) l → h ≡ (plan_of bs).horizon → c ≡ constraint_of (plan_with bs h) e → Along c l r → r ≡ applied (plan_of bs) (Propagation e) l l
along_edge_lem bs h e c l r accepted row inside own is f =
    subst (λ (d : Constraint). Along d l r) (is ∙ own_constraint bs h e own) f (plan_of bs).propositions (accepted_bounded bs accepted).propositions_in (edge_range (plan_of bs) (accepted_well_formed bs accepted) e row).label_in inside.label_in

pub along-requires : goal.along-requires
along-requires c = search (rules, label_byte)

pub returns : goal.returns
returns c = search along_edge_lem
