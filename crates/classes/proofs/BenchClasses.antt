-- Worked examples (19.9): the shutter of the ramp, README's first example, is as wide as its class, and that of the quick ramp narrower.
use mathlib.Core.Path.{◌≡◌, refl}
use mathlib.Core.List.{List, [], ◌∷◌, ◌++◌}
use Prim.Native.Nat.{ℕ}
use Rattle.plan.specs.Bytes.{byte_at, word_at}
use Rattle.plan.specs.Label.{plain, digit}
use Rattle.plan.specs.Layout.{ends_at, data_at, row_of_edge, up_of, down_of, greatest, most_at, down_at, largest_of, plan_of, spare_at, length_for, label_bytes, labelled_length_for}
use Rattle.plan.specs.Refusal.{every, differs, sizes_fit, observer_fits, link_ends_fit, duration_fits, is_link_fit, edge_ends_fit, label_fits, edge_fits, refusal_of, refusal, some, length_fits, point_label_fits, contains_label, contains_observers, puts_after, comes_after, point_well_defined, edge_well_defined, link_well_defined, well_defined}
use Rattle.classes.specs.Classes.{house_seconds, house, class_known, classes_fit, wide_enough, class_refusal}

abbrev ramp : List ℕ
ramp = 4 ∷ 1 ∷ 1 ∷ 3 ∷ 2 ∷ 0 ∷ 1 ∷ 2 ∷ 1 ∷ 3 ∷ 0 ∷ 0 ∷ 3 ∷ 0 ∷ 15 ∷ 0 ∷ 120 ∷ 0 ∷ 0 ∷ 0 ∷ 0 ∷ 255 ∷ 76 ∷ 1 ∷ 0 ∷ 0 ∷ 60 ∷ 2 ∷ 0 ∷ []

abbrev ramp_quick : List ℕ
ramp_quick = 4 ∷ 1 ∷ 1 ∷ 3 ∷ 2 ∷ 0 ∷ 1 ∷ 2 ∷ 1 ∷ 3 ∷ 0 ∷ 0 ∷ 3 ∷ 0 ∷ 15 ∷ 0 ∷ 60 ∷ 0 ∷ 0 ∷ 0 ∷ 0 ∷ 255 ∷ 76 ∷ 1 ∷ 0 ∷ 0 ∷ 60 ∷ 2 ∷ 0 ∷ []

-- class by class, least and most
pub house_classes : house.least 1 ∷ house.most 1 ∷ house.least 2 ∷ house.most 2 ∷ house.least 3 ∷ house.most 3 ∷ house.least 4 ∷ house.most 4 ∷ house.least 5 ∷ house.most 5 ∷ house.least 6 ∷ house.most 6 ∷ [] ≡ house_seconds
house_classes = refl

-- with class 4, a shutter; without a class; with class 7, which the house table does not have; with an empty list
abbrev judged : List ℕ → List ℕ
judged bs = class_refusal house bs (4 ∷ []) ∷ class_refusal house bs (0 ∷ []) ∷ class_refusal house bs (7 ∷ []) ∷ class_refusal house bs [] ∷ []

pub ramps : judged ramp ++ judged ramp_quick ≡ 0 ∷ 0 ∷ 14 ∷ 14 ∷ 15 ∷ 0 ∷ 14 ∷ 14 ∷ []
unfolding byte_at word_at digit plain label_bytes ends_at data_at row_of_edge up_of down_of greatest most_at down_at largest_of plan_of spare_at length_for every differs sizes_fit observer_fits link_ends_fit duration_fits is_link_fit edge_ends_fit label_fits edge_fits labelled_length_for some length_fits point_label_fits contains_label contains_observers puts_after comes_after point_well_defined edge_well_defined link_well_defined well_defined refusal_of refusal class_known classes_fit wide_enough class_refusal
ramps = refl
