-- When a plan is turned down (4, 22.2 to 22.6).
use Rattle.std.specs.Prelude.{◌≡◌, Bool, true, cond, not, ◌&&◌, ◌||◌, List, ℕ, zero, suc, ◌^◌, ltb, leb, eqb, length}
use Rattle.plan.specs.Label.{digit, plain}
use Rattle.plan.specs.Plan.{Plan, cells}
use Rattle.plan.specs.Layout.{plan_of, spare_at, length_for, labelled_length_for}

-- a test holds of every number below n
unfoldable pub every : (ℕ → Bool) → ℕ → Bool
every f zero = true
every f (suc n) = every f n && f n

-- it holds of some
unfoldable pub some : (ℕ → Bool) → ℕ → Bool
some f n = not (every (λ i. not (f i)) n)

-- the numbers f 0 .. f (n - 1) are all other than x
unfoldable pub differs : (ℕ → ℕ) → ℕ → ℕ → Bool
differs f x n = every (λ i. not (eqb (f i) x)) n

-- 4.2: the sizes are within their bounds, and the cells are not too many
unfoldable pub sizes_fit : Plan → Bool
sizes_fit P =
    leb 2 P.points && leb P.points 32 && leb P.propositions 4 && leb P.links 4 && leb P.edges 128
    && leb (cells P) 16384

-- 3.6, 22.1: the length is one of the two that the sizes ask for
unfoldable pub length_fits : List ℕ → Plan → Bool
length_fits bs P = eqb (length bs) (length_for P) || eqb (length bs) (labelled_length_for P)

-- 4.3: the observing point is another than Z, a point, and of no earlier proposition
unfoldable pub observer_fits : Plan → ℕ → Bool
observer_fits P j =
    ltb 0 (P.observer j) && ltb (P.observer j) P.points && differs P.observer (P.observer j) j

-- 4.5, 22.2: a label is plain and has p digits
unfoldable pub label_fits : Plan → ℕ → Bool
label_fits P a = ltb a (4 ^ P.propositions) && plain P.propositions a

-- 22.2: the label of a point, which is 0 at Z
unfoldable pub point_label_fits : Plan → ℕ → Bool
point_label_fits P x = label_fits P (P.point_label x) && (ltb 0 x || eqb (P.point_label x) 0)

-- 4.4: both ends are points and differ; C is not Z, not observing, and the end of no earlier link
unfoldable pub link_ends_fit : Plan → ℕ → Bool
link_ends_fit P i =
    ltb (P.activation i) P.points && ltb (P.finish i) P.points && not (eqb (P.activation i) (P.finish i))
    && ltb 0 (P.finish i) && differs P.observer (P.finish i) P.propositions
    && differs P.finish (P.finish i) i

-- 4.4, 4.5: no duration and no weight, either way, is longer, in seconds
abbrev pub most_seconds : ℕ
most_seconds = 28800

-- 4.4: the durations
unfoldable pub duration_fits : Plan → ℕ → Bool
duration_fits P i = ltb 0 (P.least i) && ltb (P.least i) (P.most i) && leb (P.most i) most_seconds

-- 4.4: the whole link
unfoldable pub is_link_fit : Plan → ℕ → Bool
is_link_fit P i = link_ends_fit P i && duration_fits P i

-- 4.5: both ends are points and differ; the weight is within its bounds
unfoldable pub edge_ends_fit : Plan → ℕ → Bool
edge_ends_fit P i =
    ltb (P.from i) P.points && ltb (P.to i) P.points && not (eqb (P.from i) (P.to i))
    && leb (P.up i) most_seconds && leb (P.down i) most_seconds

-- 4.5: the whole edge, with its spare byte
unfoldable pub edge_fits : List ℕ → Plan → ℕ → Bool
edge_fits bs P i = edge_ends_fit P i && label_fits P (P.label i) && eqb (spare_at bs i) 0

-- ---- a well-defined network: Definition 3 of the source, its edges being edge rows (22.3 to 22.6)
-- 22.3: a label names a proposition
abbrev pub names : ℕ → ℕ → Bool
names a j = not (eqb (digit a j) 0)

-- 22.3: label a contains label b: each digit of b that is not 0 is a's digit
abbrev pub contains_digit : ℕ → ℕ → ℕ → Bool
contains_digit a b j = not (names b j) || eqb (digit b j) (digit a j)

unfoldable pub contains_label : Plan → ℕ → ℕ → Bool
contains_label P a b = every (contains_digit a b) P.propositions

-- 22.4: a label contains the label of each observing point that it names
abbrev pub contains_observer : Plan → ℕ → ℕ → Bool
contains_observer P a j = not (names a j) || contains_label P a (P.point_label (P.observer j))

unfoldable pub contains_observers : Plan → ℕ → Bool
contains_observers P a = every (contains_observer P a) P.propositions

-- 22.5: edge i runs from point x to the observing point of j, with a negative weight and exactly the point's label
unfoldable pub puts_after : Plan → ℕ → ℕ → ℕ → Bool
puts_after P x j i =
    eqb (P.from i) x && eqb (P.to i) (P.observer j) && ltb 0 (P.down i) && eqb (P.label i) (P.point_label x)

-- 22.5: some edge does, for each proposition that the point's label names
abbrev pub comes_after_answer : Plan → ℕ → ℕ → Bool
comes_after_answer P x j = not (names (P.point_label x) j) || some (puts_after P x j) P.edges

unfoldable pub comes_after : Plan → ℕ → Bool
comes_after P x = every (comes_after_answer P x) P.propositions

-- 22.4, 22.5: parts 2a and 2b
unfoldable pub point_well_defined : Plan → ℕ → Bool
point_well_defined P x = contains_observers P (P.point_label x) && comes_after P x

-- 22.4: parts 1 and 3: an edge's label contains the labels of both ends, and of the observing points that it names
unfoldable pub edge_well_defined : Plan → ℕ → Bool
edge_well_defined P i =
    contains_label P (P.label i) (P.point_label (P.from i)) && contains_label P (P.label i) (P.point_label (P.to i))
    && contains_observers P (P.label i)

-- 22.6: both ends of a link carry equal labels
unfoldable pub link_well_defined : Plan → ℕ → Bool
link_well_defined P i = eqb (P.point_label (P.activation i)) (P.point_label (P.finish i))

-- 22.6: all of this
unfoldable pub well_defined : Plan → Bool
well_defined P =
    every (edge_well_defined P) P.edges && every (point_well_defined P) P.points && every (link_well_defined P) P.links

-- 4.6: the number of the first refusal that applies, 0 where none does
unfoldable pub refusal_of : List ℕ → Plan → ℕ
refusal_of bs P =
    cond (ltb (length bs) 4) 1
    (cond (not (sizes_fit P)) 2
    (cond (not (length_fits bs P)) 1
    (cond (not (every (observer_fits P) P.propositions)) 3
    (cond (not (every (point_label_fits P) P.points)) 17
    (cond (not (every (is_link_fit P) P.links)) 4
    (cond (not (every (edge_fits bs P) P.edges)) 5
    (cond (not (well_defined P)) 18 0)))))))

-- 4.6: of the plan that the bytes are
unfoldable pub refusal : List ℕ → ℕ
refusal bs = refusal_of bs (plan_of bs)

-- 4.7: no refusal before 6 applies
abbrev pub Accepted : List ℕ → Type 0
Accepted bs = refusal bs ≡ 0
