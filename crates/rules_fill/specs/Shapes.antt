-- For inner contracts only: the six rules as three shapes of loop, namely propagation (rules 1 to 3), removal of a letter or a literal (rules 4 and 6),
-- and clearing (rule 5). Nothing here is to be believed: the laws of proofs/ show that these are the rules.
-- A place is where a line lies among its point's cells, set * 4 ^ p + label. A wait of 0 is no line, and raises nothing.
use Rattle.std.specs.Prelude.{Bool, cond, not, ◌&&◌, ◌||◌, List, ℕ, suc, ◌+◌, ◌-◌, ◌*◌, ◌^◌, min, ltb, eqb, get_or}
use Rattle.std.specs.Int.Bits.{bit_or, bit_and}
use Rattle.plan.specs.Label.{plain}
use Rattle.plan.specs.Plan.{Plan, width}
use Rattle.rules.specs.declared.Edge.{Edge}
use Rattle.rules.specs.declared.Edge.TheVariants.{PlanEdge, HorizonEdge, UpperBound, LowerBound}
use Rattle.rules.specs.Rules.{constraint_of}
use Rattle.rules.specs.Tables.{raise_cell}
use Rattle.rules_fill.specs.Steps.{steps, when}

-- ---- bits of places
-- the bit of link i, where there are p propositions
unfoldable pub link_bit : ℕ → ℕ → ℕ
link_bit p i = 2 ^ (2 * p + i)

-- the two bits of proposition j
unfoldable pub digit_mask : ℕ → ℕ
digit_mask j = 3 * 4 ^ j

-- the bits of all p propositions
unfoldable pub label_mask : ℕ → ℕ
label_mask p = 4 ^ p - 1

-- the place has a bit of the mask
unfoldable pub touches : ℕ → ℕ → Bool
touches mask place = not (eqb (bit_and place mask) 0)

-- the place without the bits of the mask
unfoldable pub cleared : ℕ → ℕ → ℕ
cleared place mask = place - bit_and place mask

-- ---- lines
-- a cell above 0 is a line, and so is a point's starting cell
unfoldable pub is_line : ℕ → ℕ → Bool
is_line place wait = ltb 0 wait || eqb place 0

-- the wait less a weight that is up less down, or 0
unfoldable pub weighed : ℕ → ℕ → ℕ → ℕ
weighed wait up down = wait + down - up

-- ---- the shapes
-- a label byte is plain (the bits of the mask alone count)
unfoldable pub is_plain : ℕ → ℕ → Bool
is_plain mask place = plain 4 (bit_and place mask)

-- rules 1 to 3: the line, if it is one, has no bit of avoid, and its label is plain, before and after
unfoldable pub propagates : ℕ → ℕ → ℕ → ℕ → ℕ → Bool
propagates mask avoid add place wait = is_line place wait && not (touches avoid place) && is_plain mask place && is_plain mask (bit_or place add)

-- the wait that they give, at the place bit_or place add
unfoldable pub propagated : ℕ → ℕ → ℕ → ℕ → ℕ → ℕ → ℕ → ℕ
propagated mask avoid add up down place wait = cond (propagates mask avoid add place wait) (weighed wait up down) 0

-- rules 4 and 6: the wait that a line with a bit of the mask, which waits w, and the other point's line give, at the place bit_or (cleared first mask) place
unfoldable pub removed : ℕ → ℕ → ℕ → ℕ → ℕ → ℕ
removed mask add w place other = cond (is_line place other && not (touches mask place)) (min w (other + add)) 0

-- the same from any first line: nothing, where it has no bit of the mask
unfoldable pub removes : ℕ → ℕ → ℕ → ℕ → ℕ → ℕ → ℕ
removes mask add first w place other = cond (touches mask first) (removed mask add w place other) 0

-- ---- the loops: over a table A of m cells for each point
unfoldable pub propagate_step : ℕ → List ℕ → ℕ → ℕ → ℕ → ℕ → ℕ → ℕ → ℕ → List ℕ → List ℕ
propagate_step m A mask from avoid add up down t = raise_cell (bit_or t add) (propagated mask avoid add up down t (get_or A (from * m + t) 0))

-- rules 1 to 3, from all cells of the point `from`
unfoldable pub propagate_in : ℕ → List ℕ → ℕ → ℕ → ℕ → ℕ → ℕ → ℕ → List ℕ → List ℕ
propagate_in m A mask from avoid add up down = steps (propagate_step m A mask from avoid add up down) m

unfoldable pub remove_step : ℕ → List ℕ → ℕ → ℕ → ℕ → ℕ → ℕ → ℕ → List ℕ → List ℕ
remove_step m A other mask add place w u = raise_cell (bit_or place u) (removed mask add w u (get_or A (other * m + u) 0))

-- rules 4 and 6, from one line (its place cleared) and all cells of the other point
unfoldable pub remove_one : ℕ → List ℕ → ℕ → ℕ → ℕ → ℕ → ℕ → List ℕ → List ℕ
remove_one m A other mask add place w = steps (remove_step m A other mask add place w) m

-- the same from any line at place t: nothing, where the place has no bit of the mask
unfoldable pub remove_cell : ℕ → List ℕ → ℕ → ℕ → ℕ → ℕ → ℕ → List ℕ → List ℕ
remove_cell m A other mask add t w = when (touches mask t) (remove_one m A other mask add (cleared t mask) w)

unfoldable pub remove_from : ℕ → List ℕ → ℕ → ℕ → ℕ → ℕ → ℕ → List ℕ → List ℕ
remove_from m A other mask add x t = remove_cell m A other mask add t (get_or A (x * m + t) 0)

-- rules 4 and 6, from all cells of point x
unfoldable pub remove_in : ℕ → List ℕ → ℕ → ℕ → ℕ → ℕ → List ℕ → List ℕ
remove_in m A other mask add x = steps (remove_from m A other mask add x) m

unfoldable pub clear_cell : ℕ → ℕ → ℕ → List ℕ → List ℕ
clear_cell mask t w = when (touches mask t) (raise_cell (cleared t mask) w)

unfoldable pub clear_from : ℕ → List ℕ → ℕ → ℕ → ℕ → List ℕ → List ℕ
clear_from m A mask x t = clear_cell mask t (get_or A (x * m + t) 0)

-- rule 5, at the observing point x
unfoldable pub clear_in : ℕ → List ℕ → ℕ → ℕ → List ℕ → List ℕ
clear_in m A mask x = steps (clear_from m A mask x) m

-- ---- the rows
module _ (P : Plan) (A : List ℕ) where
  unfoldable pub edge_in_step : Edge → List ℕ → List ℕ
  edge_in_step e = propagate_in (width P) A (label_mask P.propositions) (constraint_of P e).to 0 (constraint_of P e).label (constraint_of P e).up (constraint_of P e).down

  unfoldable pub lower_in : ℕ → List ℕ → List ℕ
  lower_in i = propagate_in (width P) A (label_mask P.propositions) (P.finish i) (link_bit P.propositions i) 0 (P.least i) 0

  unfoldable pub upper_in : ℕ → List ℕ → List ℕ
  upper_in i = propagate_in (width P) A (label_mask P.propositions) (P.activation i) 0 (link_bit P.propositions i) 0 (P.most i)

  unfoldable pub letter_in : ℕ → ℕ → List ℕ → List ℕ
  letter_in x i = remove_in (width P) A (P.activation i) (link_bit P.propositions i) (P.least i) x

  unfoldable pub own_literal_in : ℕ → ℕ → List ℕ → List ℕ
  own_literal_in x j = clear_in (width P) A (digit_mask j) x

  unfoldable pub literal_in : ℕ → ℕ → List ℕ → List ℕ
  literal_in x j = remove_in (width P) A (P.observer j) (digit_mask j) 0 x

  -- rules 1 to 6 of point x, in the code's order
  unfoldable pub fill_edge : ℕ → ℕ → List ℕ → List ℕ
  fill_edge x i = when (eqb (P.from i) x) (edge_in_step (PlanEdge i))

  unfoldable pub fill_edges : ℕ → List ℕ → List ℕ
  fill_edges x = steps (fill_edge x) P.edges

  unfoldable pub fill_horizon : List ℕ → List ℕ
  fill_horizon = steps (λ y. edge_in_step (HorizonEdge (suc y))) (P.points - 1)

  unfoldable pub fill_activation : ℕ → ℕ → List ℕ → List ℕ
  fill_activation x i = when (eqb (P.activation i) x) (λ B. edge_in_step (UpperBound i) (lower_in i B))

  unfoldable pub fill_finish : ℕ → ℕ → List ℕ → List ℕ
  fill_finish x i = when (eqb (P.finish i) x) (λ B. edge_in_step (LowerBound i) (upper_in i B))

  unfoldable pub fill_link : ℕ → ℕ → List ℕ → List ℕ
  fill_link x i B = letter_in x i (fill_finish x i (fill_activation x i B))

  unfoldable pub fill_links : ℕ → List ℕ → List ℕ
  fill_links x = steps (fill_link x) P.links

  unfoldable pub fill_own_literal : ℕ → ℕ → List ℕ → List ℕ
  fill_own_literal x j = when (eqb (P.observer j) x) (own_literal_in x j)

  unfoldable pub fill_proposition : ℕ → ℕ → List ℕ → List ℕ
  fill_proposition x j B = literal_in x j (fill_own_literal x j B)

  unfoldable pub fill_propositions : ℕ → List ℕ → List ℕ
  fill_propositions x = steps (fill_proposition x) P.propositions

  -- what the code does to the part of point x, once it holds the table's cells
  unfoldable pub filled : ℕ → List ℕ → List ℕ
  filled x B = fill_propositions x (fill_links x (when (eqb x 0) fill_horizon (fill_edges x B)))
