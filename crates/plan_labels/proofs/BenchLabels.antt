-- A small plan with labels of points, and its neighbours: what each is refused for, by computation.
use mathlib.Core.Path.{◌≡◌, refl}
use mathlib.Core.List.{List, [], ◌∷◌, ◌++◌, map}
use Prim.Native.Nat.{ℕ}
use Rattle.plan.specs.Bytes.{byte_at, word_at}
use Rattle.plan.specs.Label.{digit, plain}
use Rattle.plan.specs.Layout.{label_bytes, ends_at, data_at, row_of_edge, up_of, down_of, greatest, most_at, down_at, largest_of, plan_of, spare_at, length_for, labelled_length_for}
use Rattle.plan.specs.Refusal.{every, some, differs, sizes_fit, length_fits, observer_fits, label_fits, point_label_fits, link_ends_fit, duration_fits, is_link_fit, edge_ends_fit, edge_fits, contains_label, contains_observers, puts_after, comes_after, point_well_defined, edge_well_defined, link_well_defined, well_defined, refusal_of, refusal}

-- Z, a poll that observes the one proposition, a damper driven, and open; edge 0 puts the drive a second or more after the poll. Handed in are the labels of points, the ends of edge 1, the link's durations, and the data of edge 1
abbrev made : List ℕ → List ℕ → List ℕ → List ℕ → List ℕ
made labels edge1 link data1 = 4 ∷ 1 ∷ 1 ∷ 2 ∷ 1 ∷ labels ++ (2 ∷ 3 ∷ 2 ∷ 1 ∷ edge1 ++ (link ++ (255 ∷ 255 ∷ 1 ∷ 0 ∷ data1)))

-- both ends of the link exist only with the answer yes
abbrev confirmed : List ℕ
confirmed = 0 ∷ 0 ∷ 1 ∷ 1 ∷ []

-- edge 1 runs from the open damper to the poll; the link takes 2 to 5 s; edge 1 has weight -1 and label 1
abbrev back : List ℕ
back = 3 ∷ 1 ∷ []

abbrev takes : List ℕ
takes = 0 ∷ 2 ∷ 0 ∷ 5 ∷ []

abbrev after : List ℕ
after = 255 ∷ 255 ∷ 1 ∷ 0 ∷ []

-- the plan; all labels 0; no labels. Then 17: not 0 at Z, not plain, a digit at p
abbrev fitting : List (List ℕ)
fitting = made confirmed back takes after ∷ made (0 ∷ 0 ∷ 0 ∷ 0 ∷ []) back takes after ∷ made [] back takes after ∷ []

abbrev unfit : List (List ℕ)
unfit = made (1 ∷ 0 ∷ 1 ∷ 1 ∷ []) back takes after ∷ made (0 ∷ 0 ∷ 1 ∷ 3 ∷ []) back takes after ∷ made (0 ∷ 0 ∷ 4 ∷ 1 ∷ []) back takes after ∷ []

-- 18: edge 1 with label 0, with label 2, with weight 0, the other way round, to another point; ends of the link that differ; a poll that names its own answer
abbrev ill_defined : List (List ℕ)
ill_defined = made confirmed back takes (255 ∷ 255 ∷ 0 ∷ 0 ∷ []) ∷ made confirmed back takes (255 ∷ 255 ∷ 2 ∷ 0 ∷ []) ∷ made confirmed back takes (0 ∷ 0 ∷ 1 ∷ 0 ∷ []) ∷ made confirmed (1 ∷ 3 ∷ []) takes after ∷ made confirmed (3 ∷ 2 ∷ []) takes after ∷ made (0 ∷ 0 ∷ 1 ∷ 0 ∷ []) back takes after ∷ made (0 ∷ 1 ∷ 1 ∷ 1 ∷ []) back takes after ∷ []

-- several at once: 17 with 4, 4 with 18, 5 with 18
abbrev several : List (List ℕ)
several = made (1 ∷ 0 ∷ 1 ∷ 1 ∷ []) back (0 ∷ 5 ∷ 0 ∷ 5 ∷ []) after ∷ made (0 ∷ 0 ∷ 1 ∷ 0 ∷ []) back (0 ∷ 5 ∷ 0 ∷ 5 ∷ []) after ∷ made (0 ∷ 0 ∷ 1 ∷ 0 ∷ []) back takes (255 ∷ 255 ∷ 1 ∷ 9 ∷ []) ∷ []

pub refusals : map refusal (fitting ++ (unfit ++ (ill_defined ++ several))) ≡ 0 ∷ 0 ∷ 0 ∷ 17 ∷ 17 ∷ 17 ∷ 18 ∷ 18 ∷ 18 ∷ 18 ∷ 18 ∷ 18 ∷ 18 ∷ 17 ∷ 4 ∷ 5 ∷ []
unfolding byte_at word_at digit plain label_bytes ends_at data_at row_of_edge up_of down_of greatest most_at down_at largest_of plan_of spare_at length_for labelled_length_for every some differs sizes_fit length_fits observer_fits label_fits point_label_fits link_ends_fit duration_fits is_link_fit edge_ends_fit edge_fits contains_label contains_observers puts_after comes_after point_well_defined edge_well_defined link_well_defined well_defined refusal_of refusal
refusals = refl
