-- What a round does to the cells of one point, in the code's shapes and the code's order, makes those cells of the next table.
use mathlib.Core.Path.{◌≡◌, refl, sym, ap, ◌∙◌}
use mathlib.Core.Bool.{Bool, true, false, cond}
use mathlib.Core.List.{List}
use Prim.Native.Nat.{ℕ, suc, ◌-◌, ◌≤◌, ◌<◌}
use native.Mathlib.Decide.{ℕ_discrete}
use native.Mathlib.Omega.{arith}
use lib.Dec.{T as Is, eqb, eqb→eq}
use lib.Ieee.Fits.{and_l, and_r}
use borrow.Author.Tests.{eq-eqb, ne_eqb}
use lib.Bits.{bit_or}
use lib.ListN.{length}
use Rattle.plan.specs.Plan.{Plan, width, cells}
use Rattle.plan.proofs.Ranges.{WellFormed}
use Rattle.rules.specs.declared.Line.{Line}
use Rattle.rules.specs.declared.Edge.{Edge}
use Rattle.rules.specs.declared.Edge.TheVariants.{PlanEdge, HorizonEdge, UpperBound, LowerBound}
use Rattle.rules.specs.declared.Rule.{Rule}
use Rattle.rules.specs.declared.Rule.TheVariants.{Propagation, LowerCase, UpperCase, LetterRemoval, OwnLiteral, LiteralRemoval}
use Rattle.rules.specs.Rules.{constraint_of, result}
use Rattle.rules.specs.Tables.{raise_cell, next}
use Rattle.rules_fill.specs.Parts.{part}
use Rattle.rules_fill.specs.Steps.{when, steps}
use Rattle.rules_fill.specs.Shapes.{link_bit, digit_mask, touches, cleared, removes, propagate_step, propagate_in, remove_step, remove_one, remove_cell, remove_from, remove_in, clear_cell, clear_from, clear_in, edge_in_step, lower_in, upper_in, letter_in, own_literal_in, literal_in, fill_edge, fill_edges, fill_horizon, fill_activation, fill_finish, fill_own_literal, fill_link, fill_links, fill_proposition, fill_propositions, filled}
use Rattle.rules.specs.Derivations.{InPlan}
use Rattle.rules.proofs.InRange.{edge_range}
use Rattle.rules.proofs.Raising.{raise_none}
use Rattle.rules_fill.proofs.StepLaws.{when_true, when_false, steps_alike, steps_idle}
use Rattle.rules_fill.proofs.PointLaws.{wait_at, second_count, gives, step_of_pair, row_step, fill_point, row_idle, fill_point_lem}
use Rattle.rules_fill.proofs.ShapeGives.{Gives, gives_step, propagation_gives, lower_gives, upper_gives, letter_gives, own_gives, literal_gives}

-- a step under a test, and a step by a wait that the test may make 0
raise_test : (b : Bool) (c w : ℕ) (B : List ℕ) → raise_cell c (cond b w 0) B ≡ when b (raise_cell c w) B
unfolding when
raise_test true c w B = refl
raise_test false c w B = sym (raise_none B c 0 (omega arith))

-- a test may stand outside a loop
test_out : (b : Bool) (f : ℕ → List ℕ → List ℕ) (n : ℕ) (B : List ℕ) → steps (λ i. when b (f i)) n B ≡ when b (steps f n) B
unfolding when
test_out true f n B = refl
test_out false f n B = steps_idle _ n (λ i h C. refl) B

-- a row that a test lets pass, and which is idle where it does not
when_row : (y x : ℕ) (f g : List ℕ → List ℕ) → (y ≡ x → (B : List ℕ) → f B ≡ g B) → ((y ≡ x → ⊥) → (B : List ℕ) → f B ≡ B) → (B : List ℕ) → f B ≡ when (eqb y x) g B
when_row y x f g same idle B = go (ℕ_discrete y x)
  where
    go : Dec (y ≡ x) → f B ≡ when (eqb y x) g B
    go (yes e) = same e B ∙ when_true (eqb y x) g B (eq-eqb y x e)
    go (no n) = idle n B ∙ when_false (eqb y x) g B (ne_eqb y x n)

module _ (P : Plan) (wf : WellFormed P) (few : P.propositions ≤ 4) (A : List ℕ) (len : length A ≡ cells P) (x : ℕ) (inside : x < P.points) where
  -- a row of a rule of one parent, and of two
  one_row : (r : Rule) (f : ℕ → List ℕ → List ℕ) → ((t : ℕ) (B : List ℕ) → steps (λ u. step_of_pair P A x r t u) (second_count P r) B ≡ f t B) → (B : List ℕ) → row_step P A x r B ≡ steps f (width P) B
  unfolding row_step
  one_row r f h B = steps_alike _ _ (width P) (λ t k C. h t C) B

  edge_row : (e : Edge) → InPlan P (Propagation e) → (constraint_of P e).from ≡ x → (B : List ℕ) → row_step P A x (Propagation e) B ≡ edge_in_step P A e B
  unfolding edge_in_step propagate_in propagate_step steps
  edge_row e h mine B = one_row (Propagation e) _ (λ t C. gives_step P A x (propagation_gives P A x few e mine (edge_range P wf e h).label_in t) C) B

  lower_row : (i : ℕ) → P.activation i ≡ x → (B : List ℕ) → row_step P A x (LowerCase i) B ≡ lower_in P A i B
  unfolding lower_in propagate_in propagate_step steps
  lower_row i mine B = one_row (LowerCase i) _ (λ t C. gives_step P A x (lower_gives P A x few i mine t) C) B

  upper_row : (i : ℕ) → P.finish i ≡ x → (B : List ℕ) → row_step P A x (UpperCase i) B ≡ upper_in P A i B
  unfolding upper_in propagate_in propagate_step steps
  upper_row i mine B = one_row (UpperCase i) _ (λ t C. gives_step P A x (upper_gives P A x few i mine t) C) B

  -- a loop of raises that a first line's test may stop
  removal_row : (r : Rule) (other mask add : ℕ) → ((t u : ℕ) → Gives P A x r t u (bit_or (cleared t mask) u) (removes mask add t (wait_at P A x t) u (wait_at P A other u))) → second_count P r ≡ width P
      → (B : List ℕ) → row_step P A x r B ≡ remove_in (width P) A other mask add x B
  unfolding remove_in remove_from remove_cell remove_one remove_step removes
  removal_row r other mask add given two B = one_row r _ (λ t C. ap (λ (n : ℕ). steps (λ u. step_of_pair P A x r t u) n C) two ∙ steps_alike _ _ (width P) (λ u k D. gives_step P A x (given t u) D ∙ raise_test (touches mask t) _ _ D) C ∙ test_out (touches mask t) _ (width P) C) B

  letter_row : (i : ℕ) (B : List ℕ) → row_step P A x (LetterRemoval i) B ≡ letter_in P A x i B
  unfolding letter_in
  letter_row i B = removal_row (LetterRemoval i) (P.activation i) (link_bit P.propositions i) (P.least i) (λ t u. letter_gives P A x i t u) refl B

  literal_row : (j : ℕ) → j < P.propositions → (B : List ℕ) → row_step P A x (LiteralRemoval j) B ≡ literal_in P A x j B
  unfolding literal_in
  literal_row j h B = removal_row (LiteralRemoval j) (P.observer j) (digit_mask j) 0 (λ t u. literal_gives P A x j h t u) refl B

  own_row : (j : ℕ) → j < P.propositions → P.observer j ≡ x → (B : List ℕ) → row_step P A x (OwnLiteral j) B ≡ own_literal_in P A x j B
  unfolding own_literal_in clear_in clear_from clear_cell steps
  own_row j h mine B = one_row (OwnLiteral j) _ (λ t C. gives_step P A x (own_gives P A x j h mine t) C ∙ raise_test (touches (digit_mask j) t) _ _ C) B

  -- ---- all rows
  -- an observing point's row of rule 5 is idle at any other point
  own_idle : (j : ℕ) → (P.observer j ≡ x → ⊥) → (B : List ℕ) → row_step P A x (OwnLiteral j) B ≡ B
  unfolding steps
  own_idle j other B = one_row (OwnLiteral j) (λ t C. C) (λ t C. gives_step P A x (nothing t) C ∙ sym (raise_none C 0 0 (omega arith))) B ∙ steps_idle _ (width P) (λ t h C. refl) B
    where
      never : (t : ℕ) → Is (gives P A x (OwnLiteral j) t 0) → ⊥
      never t h = other (sym (eqb→eq x (P.observer j) (search (and_l, and_r))))

      nothing : (t : ℕ) → Gives P A x (OwnLiteral j) t 0 0 0
      nothing t = record { gives_line = λ g. absurd (never t g); above_gives = λ h. absurd (omega arith) }

  idle : (r : Rule) → ((l m : Line) → (result P r l m).point ≡ x → ⊥) → (B : List ℕ) → row_step P A x r B ≡ B
  idle r h B = row_idle P wf A len x inside r h B

  edge_alike : (i : ℕ) → i < P.edges → (B : List ℕ) → row_step P A x (Propagation (PlanEdge i)) B ≡ fill_edge P A x i B
  unfolding fill_edge
  edge_alike i h B = when_row (P.from i) x _ _ (edge_row (PlanEdge i) h) (λ n. idle (Propagation (PlanEdge i)) (λ l m. n)) B

  horizon_alike : (B : List ℕ) → steps (λ y. row_step P A x (Propagation (HorizonEdge (suc y)))) (P.points - 1) B ≡ when (eqb x 0) (fill_horizon P A) B
  unfolding fill_horizon
  horizon_alike B = when_row x 0 _ _ (λ e C. steps_alike _ _ (P.points - 1) (λ y h D. edge_row (HorizonEdge (suc y)) (omega arith, omega arith) (sym e) D) C) (λ n C. steps_idle _ (P.points - 1) (λ y h D. idle (Propagation (HorizonEdge (suc y))) (λ l m e. n (sym e)) D) C) B

  -- rules 2 and 3 of a link, each with the edge that starts where it gives lines
  activation_alike : (i : ℕ) → i < P.links → (B : List ℕ) → row_step P A x (Propagation (UpperBound i)) (row_step P A x (LowerCase i) B) ≡ fill_activation P A x i B
  unfolding fill_activation
  activation_alike i h B =
      when_row (P.activation i) x (λ C. row_step P A x (Propagation (UpperBound i)) (row_step P A x (LowerCase i) C)) (λ C. edge_in_step P A (UpperBound i) (lower_in P A i C))
      (λ e C. edge_row (UpperBound i) h e _ ∙ ap (edge_in_step P A (UpperBound i)) (lower_row i e C))
      (λ n C. idle (Propagation (UpperBound i)) (λ l m. n) _ ∙ idle (LowerCase i) (λ l m. n) C) B

  finish_alike : (i : ℕ) → i < P.links → (B : List ℕ) → row_step P A x (Propagation (LowerBound i)) (row_step P A x (UpperCase i) B) ≡ fill_finish P A x i B
  unfolding fill_finish
  finish_alike i h B =
      when_row (P.finish i) x (λ C. row_step P A x (Propagation (LowerBound i)) (row_step P A x (UpperCase i) C)) (λ C. edge_in_step P A (LowerBound i) (upper_in P A i C))
      (λ e C. edge_row (LowerBound i) h e _ ∙ ap (edge_in_step P A (LowerBound i)) (upper_row i e C))
      (λ n C. idle (Propagation (LowerBound i)) (λ l m. n) _ ∙ idle (UpperCase i) (λ l m. n) C) B

  link_alike : (i : ℕ) → i < P.links → (B : List ℕ) → row_step P A x (LetterRemoval i) (row_step P A x (Propagation (LowerBound i)) (row_step P A x (UpperCase i) (row_step P A x (Propagation (UpperBound i)) (row_step P A x (LowerCase i) B)))) ≡ fill_link P A x i B
  unfolding fill_link
  link_alike i h B = letter_row i _ ∙ ap (letter_in P A x i) (finish_alike i h _ ∙ ap (fill_finish P A x i) (activation_alike i h B))

  proposition_alike : (j : ℕ) → j < P.propositions → (B : List ℕ) → row_step P A x (LiteralRemoval j) (row_step P A x (OwnLiteral j) B) ≡ fill_proposition P A x j B
  unfolding fill_proposition fill_own_literal
  proposition_alike j h B =
      literal_row j h _ ∙ ap (literal_in P A x j)
      (when_row (P.observer j) x (row_step P A x (OwnLiteral j)) (own_literal_in P A x j) (own_row j h) (own_idle j) B)

  fill_shapes : (B : List ℕ) → fill_point P A x B ≡ filled P A x B
  unfolding fill_point filled fill_propositions fill_links fill_edges
  fill_shapes B =
      steps_alike _ _ P.propositions proposition_alike _ ∙ ap (steps (fill_proposition P A x) P.propositions)
      (steps_alike _ _ P.links link_alike _ ∙ ap (steps (fill_link P A x) P.links)
      (horizon_alike _ ∙ ap (when (eqb x 0) (fill_horizon P A)) (steps_alike _ _ P.edges edge_alike B)))

  -- the code's fill makes the point's part of the next table
  pub filled_next : part P x (next P A) ≡ filled P A x (part P x A)
  filled_next = fill_point_lem P wf A len x inside ∙ fill_shapes (part P x A)
