-- From each edge of a point to the next of them: the edges passed over start elsewhere, so their steps are idle.
use mathlib.Core.Path.{◌≡◌, refl, sym, ◌∙◌}
use mathlib.Core.List.{List}
use Rattle.std.proofs.Common.{Option, Some, None}
use Prim.Native.Nat.{ℕ, ◌+◌, ◌-◌, ◌≤◌, ◌<◌}
use native.Mathlib.Omega.{arith}
use lib.Dec.{eqb}
use borrow.Author.Tests.{ne_eqb}
use Rattle.plan.specs.Layout.{plan_of}
use Rattle.plan.specs.Horizons.{plan_with}
use Rattle.rules.specs.declared.Edge.TheVariants.{PlanEdge}
use Rattle.rules_fill.specs.Steps.{steps}
use Rattle.rules_fill.specs.Shapes.{edge_in_step, fill_edge, fill_edges}
use Rattle.rules_fill.proofs.StepLaws.{when_false, steps_none, steps_pass}
use Rattle.rules_fill.proofs.ShapeLaws.{when_same, step_made, done}
use Rattle.rules_rows.specs.RowsRead.{next_edge, edge_or_none}
use Rattle.rules_rows.proofs.RowLaws.{Found, next_edge_found, some_edge, past_edges}

-- at edge m, which starts at x or is past them all, the steps of the edges before it are made
pub record Walked (bs : List ℕ) (horizon : ℕ) (F : List ℕ) (x : ℕ) (B : List ℕ) (at : Option ℕ) (D : List ℕ) : Type 0 where
  pub edge : ℕ
  pub at_is : at ≡ edge_or_none (plan_of bs) edge
  pub within : edge ≤ (plan_of bs).edges
  pub starts : edge < (plan_of bs).edges → (plan_of bs).from edge ≡ x
  pub made : D ≡ steps (fill_edge (plan_with bs horizon) F x) edge B

-- how many edges are left
abbrev pub edges_left : List ℕ → Option ℕ → ℕ
edges_left bs None = 0
edges_left bs (Some i) = (plan_of bs).edges - i

module _ (bs : List ℕ) (horizon : ℕ) (F : List ℕ) (x : ℕ) (B : List ℕ) where
  walk_to : (lo r : ℕ) (D : List ℕ) → D ≡ steps (fill_edge (plan_with bs horizon) F x) lo B → Found (plan_of bs) x lo (plan_of bs).edges r → Walked bs horizon F x B (edge_or_none (plan_of bs) r) D
  unfolding fill_edge
  walk_to lo r D e found =
      record {
        edge = r;
        at_is = refl;
        within = found.within;
        starts = found.starts;
        made = e ∙ sym (steps_pass (fill_edge (plan_with bs horizon) F x) lo r found.on (λ j h k A. sym (when_false (eqb ((plan_of bs).from j) x) (edge_in_step (plan_with bs horizon) F (PlanEdge j)) A (ne_eqb ((plan_of bs).from j) x (found.passed j h k)))) B);
      }

  pub walk_begins : (at : Option ℕ) → at ≡ edge_or_none (plan_of bs) (next_edge (plan_of bs) x 0) → Walked bs horizon F x B at B
  walk_begins at e = rw e (walk_to 0 (next_edge (plan_of bs) x 0) B (steps_none (fill_edge (plan_with bs horizon) F x) B) (next_edge_found (plan_of bs) x 0 (omega arith)))

  -- the edge that the walk is at
  pub walk_at : (at : Option ℕ) (i : ℕ) (C : List ℕ) → Walked bs horizon F x B at C → at ≡ Some i → (i < (plan_of bs).edges) × ((plan_of bs).from i ≡ x)
  walk_at at i C k e = let s = some_edge (plan_of bs) k.edge i (sym k.at_is ∙ e) in (s.1, rw s.0 at k.starts s.1)

  pub walk_goes : (at next : Option ℕ) (i : ℕ) (C D : List ℕ) → Walked bs horizon F x B at C → at ≡ Some i → D ≡ edge_in_step (plan_with bs horizon) F (PlanEdge i) C → next ≡ edge_or_none (plan_of bs) (next_edge (plan_of bs) ((plan_of bs).from i) (i + 1)) → Walked bs horizon F x B next D
  unfolding fill_edge
  walk_goes at next i C D k t g e =
      let s = some_edge (plan_of bs) k.edge i (sym k.at_is ∙ t) in
      let mine : (plan_of bs).from i ≡ x = rw s.0 at k.starts s.1 in
      let found = rw mine at (next_edge_found (plan_of bs) ((plan_of bs).from i) (i + 1) (omega (arith, s.1))) in
      let made = step_made (fill_edge (plan_with bs horizon) F x) i B C D (rw s.0 at k.made) (when_same ((plan_of bs).from i) ((plan_of bs).from i) x (edge_in_step (plan_with bs horizon) F (PlanEdge i)) C D refl mine g) in
      rw (e, mine) (walk_to (i + 1) (next_edge (plan_of bs) x (i + 1)) D made found)

  pub walk_nears : (at next : Option ℕ) (i : ℕ) (C : List ℕ) → Walked bs horizon F x B at C → at ≡ Some i → next ≡ edge_or_none (plan_of bs) (next_edge (plan_of bs) ((plan_of bs).from i) (i + 1)) → edges_left bs next < edges_left bs at
  walk_nears at next i C k t e = rw t (less next e)
    where
      real : i < (plan_of bs).edges
      real = (walk_at at i C k t).0

      less : (n : Option ℕ) → n ≡ edge_or_none (plan_of bs) (next_edge (plan_of bs) ((plan_of bs).from i) (i + 1)) → edges_left bs n < (plan_of bs).edges - i
      less None q = omega (arith, real)
      less (Some j) q =
          let s = some_edge (plan_of bs) (next_edge (plan_of bs) ((plan_of bs).from i) (i + 1)) j (sym q) in
          omega (arith, real, s.0, s.1, (next_edge_found (plan_of bs) ((plan_of bs).from i) (i + 1) (omega (arith, real))).on)

  pub walk_ends : (at : Option ℕ) (D : List ℕ) → Walked bs horizon F x B at D → ((i : ℕ) → at ≡ Some i → ⊥) → D ≡ fill_edges (plan_with bs horizon) F x B
  unfolding fill_edges
  walk_ends at D k not_some = done (fill_edge (plan_with bs horizon) F x) k.edge (plan_of bs).edges B D k.made (omega (arith, k.within, past_edges (plan_of bs) k.edge (sym k.at_is ∙ none at not_some)))
    where
      none : (o : Option ℕ) → ((i : ℕ) → o ≡ Some i → ⊥) → o ≡ None
      none None f = refl
      none (Some i) f = absurd (f i refl)
