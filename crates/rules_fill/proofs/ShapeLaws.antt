-- For the code: the shapes' definitions as its branches have them, and the bounds that its indices and casts need.
use mathlib.Core.Path.{◌≡◌, refl, sym, ap, ap₂, subst, ◌∙◌}
use mathlib.Core.Bool.{Bool, true, false, cond, not, ◌&&◌}
use mathlib.Core.List.{List}
use Prim.Native.Nat.{ℕ, suc, ◌+◌, ◌-◌, ◌*◌, ◌^◌, ◌≤◌, ◌<◌, min}
use native.Mathlib.Nat.{one-le-mul, le_trans, one-mul, mul-le-mul_right}
use native.Mathlib.Omega.{arith}
use lib.Bits.{bit_or, or_lt}
use lib.Pow.{pow_pos, pow-lt, pow-add}
use lib.Dec.{eqb}
use borrow.Author.Tests.{eq-eqb, ne_eqb}
use lib.ListN.{get_or, take, drop}
use lib.Seq.{get_or-take, get_or-drop}
use Rattle.plan.specs.Plan.{Plan, width, cells}
use Rattle.plan.proofs.LabelLaws.{four, four_pos}
use Rattle.rules.specs.declared.Edge.TheVariants.{HorizonEdge}
use Rattle.rules.specs.Tables.{raise_cell}
use Rattle.rules_fill.specs.Steps.{when, steps}
use Rattle.rules_fill.specs.Shapes.{link_bit, touches, cleared, weighed, is_line, is_plain, propagates, propagated, removed, propagate_step, propagate_in, remove_step, remove_one, remove_cell, remove_from, remove_in, clear_cell, clear_from, clear_in, edge_in_step, letter_in, literal_in, fill_edges, fill_horizon, fill_activation, fill_finish, fill_own_literal, fill_link, fill_links, fill_proposition, fill_propositions, filled}
use Rattle.rules.proofs.Raising.{raise_none}
use Rattle.rules_fill.proofs.StepLaws.{when_true, when_false, steps_idle, steps_more}

-- ---- branches
and_no : (a b : Bool) → b ≡ false → a && b ≡ false
and_no true b e = e
and_no false b e = refl

no_and : (a b : Bool) → a ≡ false → a && b ≡ false
no_and a b e = rw e

module _ (mask avoid add up down t w : ℕ) where
  stopped : propagates mask avoid add t w ≡ false → 0 ≡ propagated mask avoid add up down t w
  unfolding propagated
  stopped e = rw e

  pub propagated_none : is_line t w ≡ false → 0 ≡ propagated mask avoid add up down t w
  unfolding propagates
  propagated_none e = stopped (rw e)

  pub propagated_avoids : touches avoid t ≡ true → 0 ≡ propagated mask avoid add up down t w
  unfolding propagates
  propagated_avoids e = stopped (no_and (is_line t w && not (touches avoid t) && is_plain mask t) _ (no_and (is_line t w && not (touches avoid t)) _ (and_no (is_line t w) _ (ap not e))))

  pub propagated_unknown : is_plain mask t ≡ false → 0 ≡ propagated mask avoid add up down t w
  unfolding propagates
  propagated_unknown e = stopped (no_and (is_line t w && not (touches avoid t) && is_plain mask t) _ (and_no (is_line t w && not (touches avoid t)) _ e))

  pub propagated_clash : is_plain mask (bit_or t add) ≡ false → 0 ≡ propagated mask avoid add up down t w
  unfolding propagates
  propagated_clash e = stopped (and_no (is_line t w && not (touches avoid t) && is_plain mask t) _ e)

  pub propagated_goes : is_line t w ≡ true → touches avoid t ≡ false → is_plain mask t ≡ true → is_plain mask (bit_or t add) ≡ true → weighed w up down ≡ propagated mask avoid add up down t w
  unfolding propagated propagates
  propagated_goes a b c d = rw (a, b, c, d)

  pub propagated_le : propagated mask avoid add up down t w ≤ w + down
  unfolding propagated weighed
  propagated_le = go (propagates mask avoid add t w)
    where
      go : (b : Bool) → cond b (w + down - up) 0 ≤ w + down
      go true = omega arith
      go false = omega arith

module _ (mask add w u v : ℕ) where
  pub removed_none : is_line u v ≡ false → 0 ≡ removed mask add w u v
  unfolding removed
  removed_none e = rw e

  removed_touches : touches mask u ≡ true → 0 ≡ removed mask add w u v
  unfolding removed
  removed_touches e = rw (and_no (is_line u v) (not (touches mask u)) (ap not e))

  pub removed_goes : is_line u v ≡ true → touches mask u ≡ false → min w (v + add) ≡ removed mask add w u v
  unfolding removed
  removed_goes a b = rw (a, b)

  pub removed_le : removed mask add w u v ≤ w
  unfolding removed
  removed_le = go (is_line u v && not (touches mask u))
    where
      go : (b : Bool) → cond b (min w (v + add)) 0 ≤ w
      go true = omega arith
      go false = omega arith

-- ---- places stay among a point's cells
pub width_pow : (P : Plan) → 2 ^ (P.links + 2 * P.propositions) ≡ width P
width_pow P = pow-add 2 P.links (2 * P.propositions) ∙ ap (λ (x : ℕ). 2 ^ P.links * x) (four P.propositions)

pub or_in : (P : Plan) (s t : ℕ) → s < width P → t < width P → bit_or s t < width P
or_in P s t h k = subst (λ (m : ℕ). bit_or s t < m) (width_pow P) (or_lt (P.links + 2 * P.propositions) s t (rw width_pow h) (rw width_pow k))

pub label_in : (P : Plan) (a : ℕ) → a < 4 ^ P.propositions → a < width P
label_in P a h = le_trans h (rw one-mul at (mul-le-mul_right (4 ^ P.propositions) (pow_pos P.links)))

pub link_in_lem : (P : Plan) (i : ℕ) → i < P.links → link_bit P.propositions i < width P
unfolding link_bit
link_in_lem P i h = subst (λ (m : ℕ). 2 ^ (2 * P.propositions + i) < m) (width_pow P) (pow-lt (omega arith))

pub cleared_le : (t mask : ℕ) → cleared t mask ≤ t
unfolding cleared
cleared_le t mask = omega arith

-- ---- a line that waits 0 removes nothing
pub remove_nothing : (m : ℕ) (A : List ℕ) (other mask add place : ℕ) (B : List ℕ) → B ≡ remove_one m A other mask add place 0 B
unfolding remove_one remove_step
remove_nothing m A other mask add place B = sym (steps_idle _ m (λ u h C. sym (raise_none C _ _ (le_trans (removed_le mask add 0 u _) (omega arith)))) B)

-- ---- loops: a step, the end, and what a step of each shape does
pub step_made : (f : ℕ → List ℕ → List ℕ) (t : ℕ) (B C D : List ℕ) → C ≡ steps f t B → D ≡ f t C → D ≡ steps f (t + 1) B
step_made f t B C D e g = g ∙ ap (f t) e ∙ steps_more f t B

pub done : (f : ℕ → List ℕ → List ℕ) (t n : ℕ) (B C : List ℕ) → C ≡ steps f t B → t ≡ n → C ≡ steps f n B
done f t n B C e h = e ∙ ap (λ (k : ℕ). steps f k B) h

-- a cell of a point's row
pub row_cell : (F : List ℕ) (base w c v : ℕ) → v ≡ get_or (take (base + w - base) (drop base F)) c 0 → c < w → v ≡ get_or F (base + c) 0
row_cell F base w c v e h = e ∙ get_or-take (base + w - base) (drop base F) c 0 (omega arith) ∙ get_or-drop base F c 0

-- a step of a loop that begins at lo
pub turn_from : (f : ℕ → List ℕ → List ℕ) (lo t : ℕ) (B C D : List ℕ) → lo ≤ t → C ≡ steps (λ i. f (lo + i)) (t - lo) B → D ≡ f t C → D ≡ steps (λ i. f (lo + i)) (t + 1 - lo) B
turn_from f lo t B C D h e g =
    let a : t ≡ lo + (t - lo) = omega arith in
    done _ (t - lo + 1) (t + 1 - lo) B D (step_made (λ i. f (lo + i)) (t - lo) B C D e (g ∙ ap (λ (k : ℕ). f k C) a)) (omega arith)

pub propagate_step_lem : (m : ℕ) (A : List ℕ) (mask from avoid add up down t v w : ℕ) (C D : List ℕ) → w ≡ get_or A (from * m + t) 0 → v ≡ propagated mask avoid add up down t w → D ≡ raise_cell (bit_or t add) v C → D ≡ propagate_step m A mask from avoid add up down t C
unfolding propagate_step
propagate_step_lem m A mask from avoid add up down t v w C D e f g = g ∙ ap (λ (x : ℕ). raise_cell (bit_or t add) x C) (f ∙ ap (propagated mask avoid add up down t) e)

pub remove_step_lem : (m : ℕ) (A : List ℕ) (other mask add place w u v x : ℕ) (C D : List ℕ) → x ≡ get_or A (other * m + u) 0 → v ≡ removed mask add w u x → D ≡ raise_cell (bit_or place u) v C → D ≡ remove_step m A other mask add place w u C
unfolding remove_step
remove_step_lem m A other mask add place w u v x C D e f g = g ∙ ap (λ (y : ℕ). raise_cell (bit_or place u) y C) (f ∙ ap (removed mask add w u) e)

-- a place with a bit of the mask removes nothing
pub remove_pass : (m : ℕ) (A : List ℕ) (other mask add place w u : ℕ) (C : List ℕ) → touches mask u ≡ true → C ≡ remove_step m A other mask add place w u C
unfolding remove_step
remove_pass m A other mask add place w u C e = raise_none C _ _ (omega (arith, removed_touches mask add w u (get_or A (other * m + u) 0) e))

pub remove_cell_none : (m : ℕ) (A : List ℕ) (other mask add t w : ℕ) (B : List ℕ) → w ≡ 0 → B ≡ remove_cell m A other mask add t w B
unfolding remove_cell
remove_cell_none m A other mask add t w B e = rw e (go (touches mask t))
  where
    go : (b : Bool) → B ≡ when b (remove_one m A other mask add (cleared t mask) 0) B
    go true = remove_nothing m A other mask add (cleared t mask) B ∙ when_true true _ B refl
    go false = when_false false _ B refl

pub remove_cell_pass : (m : ℕ) (A : List ℕ) (other mask add t w : ℕ) (B : List ℕ) → touches mask t ≡ false → B ≡ remove_cell m A other mask add t w B
unfolding remove_cell
remove_cell_pass m A other mask add t w B e = when_false (touches mask t) _ B e

pub remove_cell_goes : (m : ℕ) (A : List ℕ) (other mask add t w place : ℕ) (B D : List ℕ) → touches mask t ≡ true → place ≡ cleared t mask → D ≡ remove_one m A other mask add place w B → D ≡ remove_cell m A other mask add t w B
unfolding remove_cell
remove_cell_goes m A other mask add t w place B D e f g = g ∙ ap (λ (c : ℕ). remove_one m A other mask add c w B) f ∙ when_true (touches mask t) _ B e

pub clear_pass : (mask t w : ℕ) (B : List ℕ) → touches mask t ≡ false → B ≡ clear_cell mask t w B
unfolding clear_cell
clear_pass mask t w B e = when_false (touches mask t) _ B e

pub clear_goes : (mask t w place : ℕ) (B D : List ℕ) → touches mask t ≡ true → place ≡ cleared t mask → D ≡ raise_cell place w B → D ≡ clear_cell mask t w B
unfolding clear_cell
clear_goes mask t w place B D e f g = g ∙ ap (λ (c : ℕ). raise_cell c w B) f ∙ when_true (touches mask t) _ B e

pub clear_step : (m : ℕ) (A : List ℕ) (mask x t w : ℕ) (C D : List ℕ) → w ≡ get_or A (x * m + t) 0 → D ≡ clear_cell mask t w C → D ≡ clear_from m A mask x t C
unfolding clear_from
clear_step m A mask x t w C D e f = f ∙ ap (λ (v : ℕ). clear_cell mask t v C) e

pub remove_cell_step : (m : ℕ) (A : List ℕ) (other mask add x t w : ℕ) (C D : List ℕ) → w ≡ get_or A (x * m + t) 0 → D ≡ remove_cell m A other mask add t w C → D ≡ remove_from m A other mask add x t C
unfolding remove_from
remove_cell_step m A other mask add x t w C D e f = f ∙ ap (λ (v : ℕ). remove_cell m A other mask add t v C) e

-- ---- rows: the same numbers, held in other words
pub propagate_by : (F B D : List ℕ) (w m k k' f f' a a' d d' u u' v v' : ℕ) → w ≡ m → k ≡ k' → f ≡ f' → a ≡ a' → d ≡ d' → u ≡ u' → v ≡ v' → D ≡ propagate_in w F k f a d u v B → D ≡ propagate_in m F k' f' a' d' u' v' B
propagate_by F B D w m k k' f f' a a' d d' u u' v v' e1 e2 e3 e4 e5 e6 e7 h = cc

pub remove_by : (F B D : List ℕ) (w m o o' k k' d d' x : ℕ) → w ≡ m → o ≡ o' → k ≡ k' → d ≡ d' → D ≡ remove_in w F o k d x B → D ≡ remove_in m F o' k' d' x B
remove_by F B D w m o o' k k' d d' x e1 e2 e3 e4 h = cc

-- the cells of point y lie in a table that has all cells
pub row_in : (P : Plan) (y n w f : ℕ) → y < P.points → cells P ≤ n → w ≡ width P → f ≡ y → f * w + w ≤ n
row_in P y n w f h k e g = rw (e, g) (omega (arith, mul-le-mul_right (width P) h))

pub or_in_by : (P : Plan) (w d a : ℕ) → w ≡ width P → d ≡ a → a < width P → (t : ℕ) → t < w → bit_or t d < w
or_in_by P w d a e g h t k = rw (e, g) (or_in P t a (rw e at k) h)

pub all_in_by : (P : Plan) (w : ℕ) → w ≡ width P → (t u : ℕ) → t < w → u < w → bit_or t u < w
all_in_by P w e t u h k = rw e (or_in P t u (rw e at h) (rw e at k))

pub width_pos : (P : Plan) → 0 < width P
width_pos P = one-le-mul (pow_pos _) (four_pos _)

pub link_by : (P : Plan) (F : List ℕ) (x i : ℕ) (B C D E : List ℕ) → C ≡ fill_activation P F x i B → D ≡ fill_finish P F x i C → E ≡ letter_in P F x i D → E ≡ fill_link P F x i B
unfolding fill_link
link_by P F x i B C D E a b c = c ∙ ap (letter_in P F x i) (b ∙ ap (fill_finish P F x i) a)

pub proposition_by : (P : Plan) (F : List ℕ) (x j : ℕ) (B C D : List ℕ) → C ≡ fill_own_literal P F x j B → D ≡ literal_in P F x j C → D ≡ fill_proposition P F x j B
unfolding fill_proposition
proposition_by P F x j B C D a b = b ∙ ap (literal_in P F x j) a

pub filled_by : (P : Plan) (F : List ℕ) (x : ℕ) (B C D E G : List ℕ) → C ≡ fill_edges P F x B → D ≡ when (eqb x 0) (fill_horizon P F) C → E ≡ fill_links P F x D → G ≡ fill_propositions P F x E → G ≡ filled P F x B
unfolding filled
filled_by P F x B C D E G a b c d = d ∙ ap (fill_propositions P F x) (c ∙ ap (fill_links P F x) (b ∙ ap (when (eqb x 0) (fill_horizon P F)) a))

pub clear_by : (F B D : List ℕ) (w m k k' x : ℕ) → w ≡ m → k ≡ k' → D ≡ clear_in w F k x B → D ≡ clear_in m F k' x B
clear_by F B D w m k k' x e1 e2 h = cc

-- the horizon's edges lead to the points from 1 on
pub horizon_turn : (P : Plan) (F : List ℕ) (y : ℕ) (B C D : List ℕ) → 0 < y → C ≡ steps (λ z. edge_in_step P F (HorizonEdge (suc z))) (y - 1) B → D ≡ edge_in_step P F (HorizonEdge y) C → D ≡ steps (λ z. edge_in_step P F (HorizonEdge (suc z))) (y + 1 - 1) B
unfolding steps
horizon_turn P F y B C D h e f =
    let a : y ≡ suc (y - 1) = omega arith in
    let b : y + 1 - 1 ≡ suc (y - 1) = omega arith in
    f ∙ ap₂ (λ (k : ℕ) (L : List ℕ). edge_in_step P F (HorizonEdge k) L) a e ∙ rw b

-- ---- a step at one point alone: the code's number a is the plan's b
pub when_same : (a b x : ℕ) (f : List ℕ → List ℕ) (B D : List ℕ) → a ≡ b → a ≡ x → D ≡ f B → D ≡ when (eqb b x) f B
when_same a b x f B D e h g = g ∙ when_true (eqb b x) f B (eq-eqb b x (sym e ∙ h))

pub when_other : (a b x : ℕ) (f : List ℕ → List ℕ) (B : List ℕ) → a ≡ b → (a ≡ x → ⊥) → B ≡ when (eqb b x) f B
when_other a b x f B e h = when_false (eqb b x) f B (ne_eqb b x (λ g. h (e ∙ g)))
