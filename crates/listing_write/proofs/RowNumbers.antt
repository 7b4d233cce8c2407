-- The numbers of rows fit 16 bits.
use mathlib.Core.Path.{◌≡◌, subst}
use mathlib.Core.List.{List}
use Prim.Native.Nat.{ℕ, ◌+◌, ◌*◌, ◌<◌}
use native.Mathlib.Omega.{arith}
use Rattle.plan.specs.Plan.{Plan}
use Rattle.plan.specs.Layout.{plan_of}
use Rattle.plan.specs.Refusal.{Accepted}
use Rattle.plan.proofs.Ranges.{accepted_bounded}
use Rattle.rules.specs.declared.Edge.{Edge}
use Rattle.rules.specs.declared.Edge.TheVariants.{PlanEdge, HorizonEdge, UpperBound, LowerBound}
use Rattle.rules.specs.declared.Rule.{Rule}
use Rattle.rules.specs.declared.Rule.TheVariants.{Propagation, LowerCase, UpperCase, LetterRemoval, OwnLiteral, LiteralRemoval}
use Rattle.rules.specs.Derivations.{InPlan}
use Rattle.listing_write.specs.Entry.{edge_number, row_number}

module _ (bs : List ℕ) (a : Accepted bs) where
  edge_fits_lem : (e : Edge) → InPlan (plan_of bs) (Propagation e) → edge_number (plan_of bs) e < 65536
  edge_fits_lem (PlanEdge i) h = let d = accepted_bounded bs a in omega (arith, d.edges_in)
  edge_fits_lem (HorizonEdge x) h = let d = accepted_bounded bs a in omega (arith, d.edges_in, d.points_in, h.1)
  edge_fits_lem (UpperBound i) h = let d = accepted_bounded bs a in omega (arith, d.edges_in, d.points_in, d.links_in)
  edge_fits_lem (LowerBound i) h = let d = accepted_bounded bs a in omega (arith, d.edges_in, d.points_in, d.links_in)

  row_fits : (r : Rule) → InPlan (plan_of bs) r → row_number (plan_of bs) r < 65536
  row_fits (Propagation e) h = edge_fits_lem e h
  row_fits (LowerCase i) h = let d = accepted_bounded bs a in omega (arith, d.links_in)
  row_fits (UpperCase i) h = let d = accepted_bounded bs a in omega (arith, d.links_in)
  row_fits (LetterRemoval i) h = let d = accepted_bounded bs a in omega (arith, d.links_in)
  row_fits (OwnLiteral j) h = let d = accepted_bounded bs a in omega (arith, d.propositions_in)
  row_fits (LiteralRemoval j) h = let d = accepted_bounded bs a in omega (arith, d.propositions_in)

  -- an edge, or a rule, that the code found to be of one case
  pub edge_numbered : (e q : Edge) (v : ℕ) → e ≡ q → InPlan (plan_of bs) (Propagation e) → v ≡ edge_number (plan_of bs) q → (v ≡ edge_number (plan_of bs) e) × (v < 65536)
  edge_numbered e q v c h k = let z : v ≡ edge_number (plan_of bs) e = rw c k in (z, rw z (edge_fits_lem e h))

  -- with the code's numbers m and n for the plan's edges and points
  module _ (e : Edge) (row : InPlan (plan_of bs) (Propagation e)) (i m : ℕ) (edges_is : m ≡ (plan_of bs).edges) where
    pub horizon_number : e ≡ HorizonEdge i → (m + i ≡ edge_number (plan_of bs) e) × (m + i < 65536)
    horizon_number q = edge_numbered e (HorizonEdge i) (m + i) q row (rw edges_is)

    module _ (n : ℕ) (points_is : n ≡ (plan_of bs).points) where
      pub upper_number : e ≡ UpperBound i → (m + n + 2 * i ≡ edge_number (plan_of bs) e) × (m + n + 2 * i < 65536)
      upper_number q = edge_numbered e (UpperBound i) (m + n + 2 * i) q row (rw (edges_is, points_is))

      pub lower_number : e ≡ LowerBound i → (m + n + 2 * i + 1 ≡ edge_number (plan_of bs) e) × (m + n + 2 * i + 1 < 65536)
      lower_number q = edge_numbered e (LowerBound i) (m + n + 2 * i + 1) q row (rw (edges_is, points_is))

  pub row_numbered : (r q : Rule) (v : ℕ) → r ≡ q → InPlan (plan_of bs) r → v ≡ row_number (plan_of bs) q → (v ≡ row_number (plan_of bs) r) × (v < 65536)
  row_numbered r q v c h k = let z : v ≡ row_number (plan_of bs) r = rw c k in (z, rw z (row_fits r h))

pub edge_in : (P : Plan) (r : Rule) (e : Edge) → r ≡ Propagation e → InPlan P r → InPlan P (Propagation e)
edge_in P r e c h = subst (InPlan P) c h
