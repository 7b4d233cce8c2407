-- The removals, numbered in one sequence: what each is lent and makes, and that together they are those of the links and then those of the propositions.
use mathlib.Core.Path.{◌≡◌, refl, sym, ap, ◌∙◌}
use mathlib.Core.Bool.{Bool, true, false, cond, not, ◌||◌}
use mathlib.Core.List.{List}
use Prim.Native.Nat.{ℕ, ◌+◌, ◌-◌, ◌*◌, ◌≤◌, ◌<◌}
use native.Mathlib.Decide.{ℕ_discrete}
use native.Mathlib.Omega.{arith}
use lib.Dec.{T as Is, ltb, eqb}
use lib.Bits.{bit_and}
use lib.ListN.{get_or}
use borrow.Author.Tests.{ltb-true, ltb-false, lt-ltb, le-ltb}
use Rattle.rules_rows.specs.declared.rows.Rows.{Rows}
use Rattle.plan.specs.Plan.{Plan, width}
use Rattle.plan.specs.Layout.{plan_of}
use Rattle.plan.specs.Horizons.{plan_with}
use Rattle.rules_fill.specs.declared.shapes.Remover.{Remover}
use Rattle.rules_fill.specs.Steps.{steps}
use Rattle.rules_fill.specs.Shapes.{touches, is_line, remove_cell, remove_from, remove_in, letter_in, literal_in, fill_activation, fill_link, fill_links, fill_own_literal, fill_proposition, fill_propositions}
use Rattle.rules_fill.proofs.StepLaws.{when_false, steps_add, steps_alike, steps_idle}
use Rattle.rules_fill.proofs.ShapeLaws.{remove_cell_none, link_by, proposition_by}
use Rattle.rules_listed.specs.declared.part.Part.{Part}
use Rattle.rules_listed.proofs.Counting.{count_two}
use Rattle.rules_refill.specs.declared.refill.Refill.{Refill}
use Rattle.rules_refill.specs.Lists.{PointLists}
use Rattle.rules_refill.specs.Lent.{RefillLent}
use Rattle.rules_refill.specs.Refills.{PartIn}
use Rattle.rules_refill.specs.Removals.{RemovalRow, link_in, single_in, removal_in, fill_removals}
use Rattle.rules_refill.proofs.Refilling.{RemovalLent, letter_lends, literal_lends, letter_made, literal_made}

module _ (P : Plan) (F : List ℕ) (x : ℕ) where
  -- all rules of link r, or of proposition r less the links
  unfoldable pub fill_removal : ℕ → List ℕ → List ℕ
  fill_removal r B = cond (ltb r P.links) (fill_link P F x r B) (fill_proposition P F x (r - P.links) B)

  link_removal : (r : ℕ) → r < P.links → (B : List ℕ) → fill_removal r B ≡ fill_link P F x r B
  unfolding fill_removal
  link_removal r h B = rw (lt-ltb r P.links h)

  proposition_removal : (r : ℕ) → P.links ≤ r → (B : List ℕ) → fill_removal r B ≡ fill_proposition P F x (r - P.links) B
  unfolding fill_removal
  proposition_removal r h B = rw (le-ltb r P.links h)

  link_single : (r : ℕ) → r < P.links → (B : List ℕ) → link_in P F x r B ≡ single_in P F x r B
  unfolding single_in
  link_single r h B = rw (lt-ltb r P.links h)

  own_single : (r : ℕ) → P.links ≤ r → (B : List ℕ) → fill_own_literal P F x (r - P.links) B ≡ single_in P F x r B
  unfolding single_in
  own_single r h B = rw (le-ltb r P.links h)

  pub single_by_link : (r k : ℕ) (B C : List ℕ) → k ≡ P.links → r < k → C ≡ link_in P F x r B → C ≡ single_in P F x r B
  single_by_link r k B C e h made = made ∙ link_single r (omega arith) B

  pub single_by_own : (r k : ℕ) (B C : List ℕ) → k ≡ P.links → k ≤ r → C ≡ fill_own_literal P F x (r - k) B → C ≡ single_in P F x r B
  single_by_own r k B C e h made = made ∙ ap (λ (n : ℕ). fill_own_literal P F x (r - n) B) e ∙ own_single r (omega arith) B

  pub removals_whole : (B : List ℕ) → steps fill_removal (P.links + P.propositions) B ≡ fill_removals P F x B
  unfolding fill_removals fill_links fill_propositions
  removals_whole B =
      let less : (i : ℕ) → P.links + i - P.links ≡ i = λ i. omega arith in
      sym (steps_add fill_removal P.links P.propositions B)
      ∙ steps_alike (λ i. fill_removal (P.links + i)) (fill_proposition P F x) P.propositions (λ i h C. proposition_removal (P.links + i) (omega arith) C ∙ ap (λ (j : ℕ). fill_proposition P F x j C) (less i)) (steps fill_removal P.links B)
      ∙ ap (steps (fill_proposition P F x) P.propositions) (steps_alike fill_removal (fill_link P F x) P.links link_removal B)

  link_removes : (r : ℕ) → r < P.links → (B : List ℕ) → letter_in P F x r B ≡ removal_in P F x r B
  unfolding removal_in
  link_removes r h B = rw (lt-ltb r P.links h)

  proposition_removes : (r : ℕ) → P.links ≤ r → (B : List ℕ) → literal_in P F x (r - P.links) B ≡ removal_in P F x r B
  unfolding removal_in
  proposition_removes r h B = rw (le-ltb r P.links h)

  -- the rules of one parent, and then the removal
  pub removal_made : (r : ℕ) (B C D : List ℕ) → C ≡ single_in P F x r B → D ≡ removal_in P F x r C → D ≡ fill_removal r B
  unfolding link_in
  removal_made r B C D single made = go (ltb r P.links) refl
    where
      go : (b : Bool) → ltb r P.links ≡ b → D ≡ fill_removal r B
      go true e =
          let k = ltb-true r P.links e in
          link_by P F x r B (fill_activation P F x r B) C D refl (single ∙ sym (link_single r k B)) (made ∙ sym (link_removes r k C)) ∙ sym (link_removal r k B)
      go false e =
          let k = ltb-false r P.links e in
          proposition_by P F x (r - P.links) B C D (single ∙ sym (own_single r k B)) (made ∙ sym (proposition_removes r k C)) ∙ sym (proposition_removal r k B)

-- ---- a point whose starting line is its only line
start_line : (v : ℕ) → Is (is_line 0 v)
unfolding is_line
start_line v = go (ltb 0 v)
  where
    go : (b : Bool) → Is (b || eqb 0 0)
    go true = tt
    go false = tt

line_above : (t v : ℕ) → 0 < v → Is (is_line t v)
unfolding is_line
line_above t v h = rw (lt-ltb 0 v h) tt

module _ {w : ℕ} {F L counts : List ℕ} {x : ℕ} (lists : PointLists w F L counts x) (few : get_or counts (2 * x + 1) 0 < 2) where
  only_start : (t : ℕ) → t < w → (t ≡ 0 → ⊥) → get_or F (x * w + t) 0 ≡ 0
  only_start t h n = go (ℕ_discrete (get_or F (x * w + t) 0) 0)
    where
      go : Dec (get_or F (x * w + t) 0 ≡ 0) → get_or F (x * w + t) 0 ≡ 0
      go (yes e) = e
      go (no e) = absurd (omega (arith, few, lists.line_count, count_two (λ t. is_line t (get_or F (x * w + t) 0)) w t h (omega arith) (start_line _) (line_above t _ (omega arith))))

  from_start : (other mask add t : ℕ) → t < w → (C : List ℕ) → Dec (t ≡ 0) → C ≡ remove_cell w F other mask add t (get_or F (x * w + t) 0) C
  unfolding remove_cell touches
  from_start other mask add t h C (yes e) = when_false _ _ C (ap (λ (k : ℕ). not (eqb (bit_and k mask) 0)) e)
  from_start other mask add t h C (no n) = remove_cell_none w F other mask add t _ C (only_start t h n)

  -- gives nothing by a removal
  pub none_removed : (other mask add : ℕ) (B : List ℕ) → B ≡ remove_in w F other mask add x B
  unfolding remove_in remove_from
  none_removed other mask add B = sym (steps_idle _ w (λ t h C. sym (from_start other mask add t h C (ℕ_discrete t 0))) B)

pub removal_lends : (f : Refill) {p : Part} → PartIn f p → (r : ℕ) (by : Remover) → RemovalRow (plan_of f.plan.now) r by → r < (plan_of f.plan.now).links + (plan_of f.plan.now).propositions → RemovalLent f p by
removal_lends f {p} of r by row h = go (ltb r (plan_of f.plan.now).links) refl
  where
    go : (b : Bool) → ltb r (plan_of f.plan.now).links ≡ b → RemovalLent f p by
    go true e = let k = ltb-true r (plan_of f.plan.now).links e in letter_lends f of r k by (row.letter k)
    go false e = let k = ltb-false r (plan_of f.plan.now).links e in literal_lends f of (r - (plan_of f.plan.now).links) (omega arith) by (row.literal k)

module _ {bs M : List ℕ} {horizon : ℕ} {F L counts : List ℕ} {rows : Rows} {w mask x : ℕ} (lent : RefillLent bs M horizon F L counts rows w mask x) (r : ℕ) (by : Remover) (row : RemovalRow (plan_of bs) r by) where
  pub removal_by : (B C : List ℕ) → C ≡ remove_in w F by.other by.mask by.add x B → C ≡ removal_in (plan_with bs horizon) F x r B
  removal_by B C made = go (ltb r (plan_of bs).links) refl
    where
      go : (b : Bool) → ltb r (plan_of bs).links ≡ b → C ≡ removal_in (plan_with bs horizon) F x r B
      go true e = let k = ltb-true r (plan_of bs).links e in letter_made lent B C r by (row.letter k) made ∙ link_removes (plan_with bs horizon) F x r k B
      go false e = let k = ltb-false r (plan_of bs).links e in literal_made lent B C (r - (plan_of bs).links) by (row.literal k) made ∙ proposition_removes (plan_with bs horizon) F x r k B

module _ {bs M : List ℕ} {horizon : ℕ} {F L counts : List ℕ} {rows : Rows} {w mask x : ℕ} (lent : RefillLent bs M horizon F L counts rows w mask x) where
  pub removal_none : get_or counts (2 * x + 1) 0 < 2 → (r : ℕ) (B : List ℕ) → B ≡ removal_in (plan_with bs horizon) F x r B
  unfolding removal_in letter_in literal_in
  removal_none few r B = go (ltb r (plan_of bs).links) (none _ _ _) (none _ _ _)
    where
      none : (other mask add : ℕ) → B ≡ remove_in (width (plan_of bs)) F other mask add x B
      none other mask add = none_removed (lent.lists_are.of_point x lent.point_in) few other mask add B

      go : {C D : List ℕ} (b : Bool) → B ≡ C → B ≡ D → B ≡ cond b C D
      go true e f = e
      go false e f = f
