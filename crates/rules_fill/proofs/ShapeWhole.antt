-- For the code: the tables that it is lent may be longer than the plan's cells, and the part that it fills longer than a point's.
-- The fill reads the first cells alone, and leaves what lies past the point's part as it was.
use mathlib.Core.Path.{◌≡◌, refl, sym, ap, ◌∙◌}
use mathlib.Core.Bool.{Bool, true, false}
use mathlib.Core.List.{List, ◌++◌}
use Prim.Native.Nat.{ℕ, zero, suc, ◌+◌, ◌-◌, ◌*◌, ◌≤◌, ◌<◌}
use native.Mathlib.Nat.{lt_of_le_of_lt, mul-le-mul_right}
use native.Mathlib.Omega.{arith}
use lib.Dec.{eqb}
use lib.Bits.{bit_or, or_zero_r}
use lib.ListN.{length, get_or, take, drop, length-set, length-take, length-drop, get_or-append}
use lib.Seq.{set-append_left, get_or-take, ext_get_or}
use Rattle.plan.specs.Plan.{Plan, width, cells}
use Rattle.plan.proofs.Ranges.{WellFormed}
use Rattle.rules.specs.declared.Edge.{Edge}
use Rattle.rules.specs.declared.Edge.TheVariants.{PlanEdge, HorizonEdge, UpperBound, LowerBound}
use Rattle.rules.specs.declared.Rule.TheVariants.{Propagation}
use Rattle.rules.specs.Rules.{constraint_of}
use Rattle.rules.specs.Tables.{raise_cell, next}
use Rattle.rules.specs.Derivations.{InPlan}
use Rattle.rules.proofs.InRange.{edge_range}
use Rattle.rules_fill.specs.Parts.{part}
use Rattle.rules_fill.specs.Steps.{when, steps}
use Rattle.rules_fill.specs.Shapes.{link_bit, touches, cleared, propagated, removed, propagate_step, propagate_in, remove_step, remove_one, remove_cell, remove_from, remove_in, clear_cell, clear_from, clear_in, edge_in_step, lower_in, upper_in, letter_in, own_literal_in, literal_in, fill_activation, fill_finish, fill_own_literal, fill_edge, fill_edges, fill_horizon, fill_link, fill_links, fill_proposition, fill_propositions, filled}
use Rattle.rules_fill.proofs.StepLaws.{steps_alike}
use Rattle.rules_fill.proofs.PartLaws.{part_at}
use Rattle.rules_fill.proofs.ShapeLaws.{or_in, label_in, link_in_lem, cleared_le, filled_by}
use Rattle.rules_fill.proofs.ShapeRows.{filled_next}

-- ---- a step that keeps to the first m cells
pub record Keeps (m : ℕ) (f : List ℕ → List ℕ) : Type 0 where
  pub as_long : (B : List ℕ) → length B ≡ m → length (f B) ≡ m
  pub beyond : (B C : List ℕ) → length B ≡ m → f (B ++ C) ≡ f B ++ C

keeps_raise : (m c w : ℕ) → c < m → Keeps m (raise_cell c w)
unfolding raise_cell
keeps_raise m c w h = record { as_long = λ B l. simp length-set l; beyond = λ B C l. let k : c < length B = omega arith in rw (get_or-append B C 0 c k) (set-append_left B C c _ k) }

keeps_when : (m : ℕ) (b : Bool) (f : List ℕ → List ℕ) → Keeps m f → Keeps m (when b f)
unfolding when
keeps_when m true f k = record { as_long = k.as_long; beyond = k.beyond }
keeps_when m false f k = record { as_long = λ B l. l; beyond = λ B C l. refl }

keeps_then : (m : ℕ) (f g : List ℕ → List ℕ) → Keeps m f → Keeps m g → Keeps m (λ B. g (f B))
keeps_then m f g j k = record { as_long = λ B l. k.as_long (f B) (j.as_long B l); beyond = λ B C l. ap g (j.beyond B C l) ∙ k.beyond (f B) C (j.as_long B l) }

keeps_steps : (m : ℕ) (f : ℕ → List ℕ → List ℕ) (n : ℕ) → ((i : ℕ) → i < n → Keeps m (f i)) → Keeps m (steps f n)
unfolding steps
keeps_steps m f zero h = record { as_long = λ B l. l; beyond = λ B C l. refl }
keeps_steps m f (suc n) h = keeps_then m (steps f n) (f n) (keeps_steps m f n (λ i k. h i (omega arith))) (h n (omega arith))

propagate_keeps : (m : ℕ) (A : List ℕ) (mask from avoid add up down : ℕ) → ((t : ℕ) → t < m → bit_or t add < m) → Keeps m (propagate_in m A mask from avoid add up down)
unfolding propagate_in propagate_step
propagate_keeps m A mask from avoid add up down h = keeps_steps m _ m (λ t k. keeps_raise m _ _ (h t k))

remove_keeps : (m : ℕ) (A : List ℕ) (other mask add x : ℕ) → ((t u : ℕ) → t < m → u < m → bit_or t u < m) → Keeps m (remove_in m A other mask add x)
unfolding remove_in remove_from remove_cell remove_one remove_step
remove_keeps m A other mask add x h = keeps_steps m _ m (λ t k. keeps_when m (touches mask t) _ (keeps_steps m _ m (λ u j. keeps_raise m _ _ (h (cleared t mask) u (lt_of_le_of_lt (cleared_le t mask) k) j))))

clear_keeps : (m : ℕ) (A : List ℕ) (mask x : ℕ) → Keeps m (clear_in m A mask x)
unfolding clear_in clear_from clear_cell
clear_keeps m A mask x = keeps_steps m _ m (λ t k. keeps_when m (touches mask t) _ (keeps_raise m _ _ (lt_of_le_of_lt (cleared_le t mask) k)))

module _ (P : Plan) (wf : WellFormed P) (A : List ℕ) (x : ℕ) where
  edge_keeps : (e : Edge) → InPlan P (Propagation e) → Keeps (width P) (edge_in_step P A e)
  unfolding edge_in_step
  edge_keeps e h = propagate_keeps (width P) A _ _ _ _ _ _ (λ t k. or_in P t (constraint_of P e).label k (label_in P (constraint_of P e).label (edge_range P wf e h).label_in))

  filled_keeps : Keeps (width P) (filled P A x)
  unfolding filled fill_propositions fill_proposition fill_links fill_link fill_horizon fill_edges fill_edge lower_in upper_in letter_in own_literal_in literal_in fill_activation fill_finish fill_own_literal
  filled_keeps =
      keeps_then m _ _ (keeps_then m _ _ (keeps_then m _ _
      (keeps_steps m _ P.edges (λ i h. keeps_when m (eqb (P.from i) x) _ (edge_keeps (PlanEdge i) h)))
      (keeps_when m (eqb x 0) _ (keeps_steps m _ (P.points - 1) (λ y h. edge_keeps (HorizonEdge (suc y)) (omega arith, omega arith)))))
      (keeps_steps m _ P.links (λ i h. keeps_then m _ _ (keeps_then m _ _
      (keeps_when m (eqb (P.activation i) x) _ (keeps_then m _ _ (propagate_keeps m A _ _ _ _ _ _ none) (edge_keeps (UpperBound i) h)))
      (keeps_when m (eqb (P.finish i) x) _ (keeps_then m _ _ (propagate_keeps m A _ _ _ _ _ _ (λ t k. or_in P t (link_bit P.propositions i) k (link_in_lem P i h))) (edge_keeps (LowerBound i) h))))
      (remove_keeps m A _ _ _ _ (or_in P)))))
      (keeps_steps m _ P.propositions (λ j h. keeps_then m _ _ (keeps_when m (eqb (P.observer j) x) _ (clear_keeps m A _ _)) (remove_keeps m A _ _ _ _ (or_in P))))
    where
      m : ℕ
      m = width P

      none : (t : ℕ) → t < m → bit_or t 0 < m
      none t k = rw (or_zero_r t) k

when_alike : (b : Bool) (f g : List ℕ → List ℕ) → ((C : List ℕ) → f C ≡ g C) → (C : List ℕ) → when b f C ≡ when b g C
unfolding when
when_alike true f g e C = e C
when_alike false f g e C = refl

-- ---- two tables that have the same first n cells
pub record Same (n : ℕ) (F G : List ℕ) : Type 0 where
  pub cell : (c : ℕ) → c < n → get_or F c 0 ≡ get_or G c 0

module _ (P : Plan) (wf : WellFormed P) (F G : List ℕ) (same : Same (cells P) F G) where
  at : (y t : ℕ) → y < P.points → t < width P → get_or F (y * width P + t) 0 ≡ get_or G (y * width P + t) 0
  at y t h k = same.cell _ (omega (arith, mul-le-mul_right (width P) h))

  propagate_same : (mask from avoid add up down : ℕ) → from < P.points → (B : List ℕ) → propagate_in (width P) F mask from avoid add up down B ≡ propagate_in (width P) G mask from avoid add up down B
  unfolding propagate_in propagate_step
  propagate_same mask from avoid add up down h B = steps_alike _ _ (width P) (λ t k C. ap (λ (w : ℕ). raise_cell (bit_or t add) (propagated mask avoid add up down t w) C) (at from t h k)) B

  one_same : (other mask add placed w : ℕ) → other < P.points → (C : List ℕ) → remove_one (width P) F other mask add placed w C ≡ remove_one (width P) G other mask add placed w C
  unfolding remove_one remove_step
  one_same other mask add placed w h C = steps_alike _ _ (width P) (λ u k D. ap (λ (v : ℕ). raise_cell (bit_or placed u) (removed mask add w u v) D) (at other u h k)) C

  remove_same : (other mask add x : ℕ) → other < P.points → x < P.points → (B : List ℕ) → remove_in (width P) F other mask add x B ≡ remove_in (width P) G other mask add x B
  unfolding remove_in remove_from remove_cell
  remove_same other mask add x h j B = steps_alike _ _ (width P) (λ t k C. ap (λ (w : ℕ). when (touches mask t) (remove_one (width P) F other mask add (cleared t mask) w) C) (at x t j k) ∙ when_alike (touches mask t) _ _ (one_same other mask add (cleared t mask) (get_or G (x * width P + t) 0) h) C) B

  clear_same : (mask x : ℕ) → x < P.points → (B : List ℕ) → clear_in (width P) F mask x B ≡ clear_in (width P) G mask x B
  unfolding clear_in clear_from
  clear_same mask x h B = steps_alike _ _ (width P) (λ t k C. ap (λ (w : ℕ). clear_cell mask t w C) (at x t h k)) B

  edge_same : (e : Edge) → InPlan P (Propagation e) → (B : List ℕ) → edge_in_step P F e B ≡ edge_in_step P G e B
  unfolding edge_in_step
  edge_same e h B = propagate_same _ _ _ _ _ _ (edge_range P wf e h).to_in B

  pub filled_same : (x : ℕ) → x < P.points → (B : List ℕ) → filled P F x B ≡ filled P G x B
  unfolding filled fill_propositions fill_proposition fill_links fill_link fill_horizon fill_edges fill_edge lower_in upper_in letter_in own_literal_in literal_in fill_activation fill_finish fill_own_literal
  filled_same x h B =
      steps_alike _ _ P.propositions (λ j k C. remove_same _ _ _ _ (wf.observer_in j k).1 h _ ∙ ap (literal_in P G x j) (when_alike (eqb (P.observer j) x) _ _ (clear_same _ x h) C)) _
      ∙ ap (fill_propositions P G x) (steps_alike _ _ P.links (λ i k C. remove_same _ _ _ _ (wf.activation_in i k) h _ ∙ ap (letter_in P G x i)
      (when_alike (eqb (P.finish i) x) _ _ (λ D. edge_same (LowerBound i) k _ ∙ ap (edge_in_step P G (LowerBound i)) (propagate_same _ _ _ _ _ _ (wf.activation_in i k) D)) _ ∙ ap (fill_finish P G x i)
      (when_alike (eqb (P.activation i) x) _ _ (λ D. edge_same (UpperBound i) k _ ∙ ap (edge_in_step P G (UpperBound i)) (propagate_same _ _ _ _ _ _ (wf.finish_in i k).1 D)) C))) _
      ∙ ap (fill_links P G x) (when_alike (eqb x 0) _ _ (λ C. steps_alike _ _ (P.points - 1) (λ y k D. edge_same (HorizonEdge (suc y)) (omega arith, omega arith) D) C) _
      ∙ ap (when (eqb x 0) (fill_horizon P G)) (steps_alike _ _ P.edges (λ i k C. when_alike (eqb (P.from i) x) _ _ (edge_same (PlanEdge i) k) C) B)))

-- ---- the whole: what the code's fill makes of the part that it is lent
pub fill_whole : (P : Plan) → WellFormed P → P.propositions ≤ 4 → (F D : List ℕ) → cells P ≤ length F → (x : ℕ) → x < P.points
    → filled P F x (part P x F ++ drop (width P) D) ≡ part P x (next P (take (cells P) F)) ++ drop (width P) D
fill_whole P wf few F D long x inside =
    (filled_keeps P wf F x).beyond (part P x F) (drop (width P) D) (long_part F long)
    ∙ ap (λ (B : List ℕ). B ++ drop (width P) D) (filled_same P wf F A same x inside (part P x F) ∙ ap (filled P A x) parts ∙ sym (filled_next P wf few A (simp length-take (omega arith)) x inside))
  where
    A : List ℕ
    A = take (cells P) F

    row : x * width P + width P ≤ cells P
    row = omega (arith, mul-le-mul_right (width P) inside)

    same : Same (cells P) F A
    same = record { cell = λ c h. sym (get_or-take (cells P) F c 0 h) }

    long_part : (G : List ℕ) → cells P ≤ length G → length (part P x G) ≡ width P
    long_part G h = simp (length-take, length-drop) (omega (arith, row))

    long_a : cells P ≤ length A
    long_a = simp length-take (omega arith)

    parts : part P x F ≡ part P x A
    parts = ext_get_or 0 (part P x F) (part P x A) (long_part F long ∙ sym (long_part A long_a)) (λ t h. let k : t < width P = rw (long_part F long) at h in part_at P x F t k ∙ same.cell _ (omega (arith, row)) ∙ sym (part_at P x A t k))

-- fill_point, from what its calls promise: the copy, then the four kinds of rows
pub fill_by : (P : Plan) → WellFormed P → P.propositions ≤ 4 → (F : List ℕ) → cells P ≤ length F → (x : ℕ) → x < P.points → (w : ℕ) (B C D E G H : List ℕ) → w ≡ width P
    → C ≡ take w (drop (x * w) F) ++ drop w B → D ≡ fill_edges P F x C → E ≡ when (eqb x 0) (fill_horizon P F) D → G ≡ fill_links P F x E → H ≡ fill_propositions P F x G
    → H ≡ part P x (next P (take (cells P) F)) ++ drop (width P) B
fill_by P wf few F long x inside w B C D E G H e copy a b c d =
    filled_by P F x C D E G H a b c d ∙ ap (filled P F x) (copy ∙ ap (λ (m : ℕ). take m (drop (x * m) F) ++ drop m B) e) ∙ fill_whole P wf few F B long x inside
