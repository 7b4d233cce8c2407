-- Where no raised cell is over the horizon, the horizon edges give a part nothing that it does not have.
use mathlib.Core.Path.{◌≡◌, refl, sym, ap, ◌∙◌}
use mathlib.Core.Bool.{Bool, true, false, cond}
use mathlib.Core.Logic.{◌⊎◌, inl, inr}
use mathlib.Core.List.{List}
use Prim.Native.Nat.{ℕ, zero, suc, ◌+◌, ◌-◌, ◌*◌, ◌≤◌, ◌<◌}
use native.Mathlib.Nat.{le_trans}
use native.Mathlib.Omega.{arith}
use lib.Bits.{bit_or, or_zero_r}
use lib.ListN.{get_or}
use Rattle.rules_rows.specs.declared.rows.Rows.{Rows}
use Rattle.plan.specs.Plan.{Plan, width}
use Rattle.plan.specs.Horizons.{plan_with}
use Rattle.plan.proofs.Ranges.{WellFormed, accepted_bounded}
use Rattle.rules.specs.declared.Edge.TheVariants.{HorizonEdge}
use Rattle.rules.specs.declared.Rule.TheVariants.{Propagation}
use Rattle.rules.proofs.InRange.{edge_range}
use Rattle.rules.proofs.Raising.{raise_none}
use Rattle.rules_fill.specs.Steps.{steps}
use Rattle.rules_fill.specs.Shapes.{label_mask, weighed, propagates, propagated, propagate_step, propagate_in, edge_in_step, fill_horizon}
use Rattle.rules_fill.proofs.ShapeGives.{propagation_gives}
use Rattle.rules_refill.specs.Lists.{Raised, Covered}
use Rattle.rules_listed.specs.Notes.{Noted}
use Rattle.rules_refill.specs.Lent.{RefillLent, NoneOver}
use Rattle.rules_refill.proofs.Covering.{one_covered}
use Rattle.rules_refill.proofs.Refilling.{lent_well_formed}

-- steps that leave one table as it is leave it so together
steps_stay : (f : ℕ → List ℕ → List ℕ) (n : ℕ) (B : List ℕ) → ((i : ℕ) → i < n → f i B ≡ B) → steps f n B ≡ B
unfolding steps
steps_stay f zero B h = refl
steps_stay f (suc n) B h = ap (f n) (steps_stay f n B (λ i k. h i (omega arith))) ∙ h n (omega arith)

propagated_weighed : (mask avoid add up down t v : ℕ) → propagated mask avoid add up down t v ≤ v + down - up
unfolding propagated weighed
propagated_weighed mask avoid add up down t v = go (propagates mask avoid add t v)
  where
    go : (b : Bool) → cond b (v + down - up) 0 ≤ v + down - up
    go true = omega arith
    go false = omega arith

module _ (P : Plan) (wf : WellFormed P) (few : P.propositions ≤ 4) (A L counts : List ℕ) (covered : Covered P A L counts) (none : (y t : ℕ) → y < P.points → t < width P → Raised (width P) L counts y t → get_or A (y * width P + t) 0 ≤ P.horizon) (B : List ℕ) (no_lower : (c : ℕ) → c < width P → get_or A (0 * width P + c) 0 ≤ get_or B c 0) where
  given_held : (y : ℕ) → 0 < y → y < P.points → (t : ℕ) → t < width P → propagated (label_mask P.propositions) 0 0 P.horizon 0 t (get_or A (y * width P + t) 0) ≤ get_or B (bit_or t 0) 0
  given_held y above inside t h = go (one_covered P A L counts 0 (omega (arith, wf.two)) covered (Propagation (HorizonEdge y)) (above, inside) (λ z. z) h (propagation_gives P A 0 few (HorizonEdge y) refl (edge_range P wf (HorizonEdge y) (above, inside)).label_in t))
    where
      go : Raised (width P) L counts y t ⊎ (propagated (label_mask P.propositions) 0 0 P.horizon 0 t (get_or A (y * width P + t) 0) ≤ get_or A (0 * width P + bit_or t 0) 0) → propagated (label_mask P.propositions) 0 0 P.horizon 0 t (get_or A (y * width P + t) 0) ≤ get_or B (bit_or t 0) 0
      go (inl r) = omega (arith, propagated_weighed (label_mask P.propositions) 0 0 P.horizon 0 t (get_or A (y * width P + t) 0), none y t inside h r)
      go (inr r) = le_trans r (no_lower (bit_or t 0) (rw (or_zero_r t) h))

  pub horizon_idle : fill_horizon P A B ≡ B
  unfolding fill_horizon edge_in_step propagate_in propagate_step
  horizon_idle = steps_stay _ (P.points - 1) B (λ y h. steps_stay _ (width P) B (λ t k. sym (raise_none B _ _ (given_held (suc y) (omega arith) (omega arith) t k))))

pub none_over_idle : {bs M : List ℕ} {horizon : ℕ} {F L counts : List ℕ} {rows : Rows} {w mask x : ℕ} → RefillLent bs M horizon F L counts rows w mask x → {B N : List ℕ} {count : ℕ} → Noted w F (x * w) B N count → {over : Bool} → NoneOver (plan_with bs horizon) F L counts over → over ≡ false → x ≡ 0 → B ≡ fill_horizon (plan_with bs horizon) F B
none_over_idle {bs} {M} {horizon} {F} {L} {counts} {rows} {w} {mask} {x} lent {B} noted under off e =
    sym (horizon_idle (plan_with bs horizon) (lent_well_formed lent) (accepted_bounded bs lent.accepted).propositions_in F L counts lent.lists_are.covered (under.none off) B (λ c h. rw (e, lent.numbers.width_is) at (noted.no_lower c (rw lent.numbers.width_is h))))
