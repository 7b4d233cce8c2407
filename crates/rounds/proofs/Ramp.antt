-- The example of the front page, plans/ramp: broken, so that no panel keeps it. (rules_panel/proofs/RampQuick has a panel for plans/ramp-quick.)
use mathlib.Core.Path.{◌≡◌, refl, sym, subst}
use mathlib.Core.List.{List, [], ◌∷◌}
use Prim.Native.Nat.{ℕ}
use Rattle.plan.specs.Bytes.{byte_at, word_at}
use Rattle.plan.specs.Label.{digit, join_digit, join, plain, clear_digit}
use Rattle.plan.specs.LinkSet.{contains, union, insert, remove}
use Rattle.plan.specs.Layout.{ends_at, data_at, row_of_edge, up_of, down_of, greatest, most_at, down_at, largest_of, plan_of, spare_at, length_for, label_bytes, labelled_length_for}
use Rattle.plan.specs.Refusal.{every, differs, sizes_fit, observer_fits, link_ends_fit, duration_fits, is_link_fit, edge_ends_fit, label_fits, edge_fits, refusal_of, refusal, some, length_fits, point_label_fits, contains_label, contains_observers, puts_after, comes_after, point_well_defined, edge_well_defined, link_well_defined, well_defined}
use Rattle.rules.specs.Tables.{raise_cell, next}
use Rattle.rules_panel.specs.Strategies.{NoPanel}
use Rattle.rounds_making.specs.Rounds.{zeros}
use Rattle.rounds_making.specs.Outcomes.{broken, run_outcome}
use Rattle.rounds.specs.Meaning.{IsBroken}
use Rattle.rounds.proofs.Meanings.{run_means_bytes}

-- the bytes of plans/ramp.plan
abbrev pub ramp : List ℕ
ramp = 4 ∷ 1 ∷ 1 ∷ 3 ∷ 2 ∷ 0 ∷ 1 ∷ 2 ∷ 1 ∷ 3 ∷ 0 ∷ 0 ∷ 3 ∷ 0 ∷ 15 ∷ 0 ∷ 120 ∷ 0 ∷ 0 ∷ 0 ∷ 0 ∷ 255 ∷ 76 ∷ 1 ∷ 0 ∷ 0 ∷ 60 ∷ 2 ∷ 0 ∷ []

-- by computation
judged : (refusal ramp ≡ 0) × (run_outcome (plan_of ramp) (zeros (plan_of ramp)) 4 ≡ broken 4)
unfolding byte_at word_at digit join_digit join plain clear_digit contains union insert remove label_bytes ends_at data_at row_of_edge up_of down_of greatest most_at down_at largest_of plan_of spare_at length_for every differs sizes_fit observer_fits link_ends_fit duration_fits is_link_fit edge_ends_fit label_fits edge_fits labelled_length_for some length_fits point_label_fits contains_label contains_observers puts_after comes_after point_well_defined edge_well_defined link_well_defined well_defined refusal_of refusal raise_cell next
judged = (refl, refl)

pub ramp_no_panel : NoPanel (plan_of ramp)
ramp_no_panel = (run_means_bytes ramp judged.0 4 [] []).broken_no_panel (subst IsBroken (sym judged.1) tt)
