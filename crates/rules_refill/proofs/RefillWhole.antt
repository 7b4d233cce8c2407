-- The rows of each kind make the point's part of the next table of it.
use mathlib.Core.Path.{◌≡◌, refl, sym, ap, ◌∙◌}
use mathlib.Core.List.{List, ◌++◌}
use Prim.Native.Nat.{ℕ, ◌*◌}
use lib.Dec.{eqb}
use lib.ListN.{take, drop, take-append-drop}
use Rattle.rules_rows.specs.declared.rows.Rows.{Rows}
use Rattle.plan.specs.Horizons.{plan_with}
use Rattle.plan.proofs.Ranges.{accepted_bounded}
use Rattle.rules_fill.specs.Steps.{when}
use Rattle.rules_fill.specs.Shapes.{fill_edges, fill_horizon, fill_links}
use Rattle.rules_fill.specs.Parts.{next_part}
use Rattle.rules_fill.proofs.ShapeWhole.{fill_by}
use Rattle.rules_listed.specs.Places.{entries}
use Rattle.rules_refill.specs.Lent.{RefillLent}
use Rattle.rules_refill.specs.Removals.{fill_removals}
use Rattle.rules_refill.proofs.Refilling.{lent_well_formed}

module _ {bs M : List ℕ} {horizon : ℕ} {F L counts : List ℕ} {rows : Rows} {w mask x : ℕ} (lent : RefillLent bs M horizon F L counts rows w mask x) (B : List ℕ) (cells_are : take w B ≡ entries F (x * w) w) where
  pub refilled_by : (D E G : List ℕ) → D ≡ fill_edges (plan_with bs horizon) F x B → E ≡ when (eqb x 0) (fill_horizon (plan_with bs horizon) F) D → G ≡ fill_removals (plan_with bs horizon) F x E → G ≡ next_part (plan_with bs horizon) x F B
  unfolding fill_removals
  refilled_by D E G edged far removed =
      let copied : B ≡ take w (drop (x * w) F) ++ drop w B = sym (take-append-drop w B) ∙ ap (λ (T : List ℕ). T ++ drop w B) cells_are in
      fill_by (plan_with bs horizon) (lent_well_formed lent) (accepted_bounded bs lent.accepted).propositions_in F lent.long_first x lent.point_in w B B D E (fill_links (plan_with bs horizon) F x E) G lent.numbers.width_is copied edged far refl removed
