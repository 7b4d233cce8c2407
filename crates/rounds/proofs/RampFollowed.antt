-- The quick ramp of the front page, plans/ramp-quick: kept, and what a panel does that follows its table, for a shutter that takes 40 s.
use mathlib.Core.Path.{◌≡◌, refl, sym, subst}
use mathlib.Core.Bool.{Bool, true, false}
use mathlib.Core.List.{List, [], ◌∷◌, ◌++◌, map}
use Prim.Native.Nat.{ℕ, zero, suc, ◌≤◌, ◌<◌}
use native.Mathlib.Omega.{arith}
use Rattle.plan.specs.Bytes.{byte_at, word_at}
use Rattle.plan.specs.Label.{digit, join_digit, join, plain, clear_digit}
use Rattle.plan.specs.LinkSet.{contains, union, insert, remove}
use Rattle.plan.specs.Layout.{ends_at, data_at, row_of_edge, up_of, down_of, greatest, most_at, down_at, largest_of, plan_of, spare_at, length_for, label_bytes, labelled_length_for}
use Rattle.plan.specs.Plan.{Plan}
use Rattle.plan.specs.Refusal.{every, differs, sizes_fit, observer_fits, link_ends_fit, duration_fits, is_link_fit, edge_ends_fit, label_fits, edge_fits, refusal_of, refusal, some, length_fits, point_label_fits, contains_label, contains_observers, puts_after, comes_after, point_well_defined, edge_well_defined, link_well_defined, well_defined}
use Rattle.rules.specs.Lines.{below}
use Rattle.rules.specs.Tables.{raise_cell, next}
use Rattle.rules_panel.specs.Dramas.{AnyDuration, Drama}
use Rattle.rules_panel.proofs.RampQuick.{ramp_quick}
use Rattle.rules_follow.specs.Following.{first, sum_over, Preference, agrees, ended, disjoint, holds_back, goes_by, ready, chosen, act, run, final, Followed}
use Rattle.rounds_making.specs.Rounds.{zeros}
use Rattle.rounds_making.specs.Outcomes.{kept, run_outcome, run_table}
use Rattle.rounds.specs.Meaning.{IsKept}
use Rattle.rounds.proofs.Meanings.{run_means_bytes}

abbrev P : Plan
P = plan_of ramp_quick

-- the waits that the front page prints
abbrev pub waits : List ℕ
waits = 0 ∷ 0 ∷ 0 ∷ 0 ∷ 0 ∷ 0 ∷ 0 ∷ 0 ∷ 15 ∷ 0 ∷ 0 ∷ 0 ∷ 60 ∷ 0 ∷ 0 ∷ 0 ∷ 15 ∷ 0 ∷ 0 ∷ 0 ∷ 60 ∷ 0 ∷ 0 ∷ 0 ∷ 15 ∷ 180 ∷ 0 ∷ 0 ∷ 60 ∷ 0 ∷ 0 ∷ 0 ∷ []

-- by computation
judged : (refusal ramp_quick ≡ 0) × (run_outcome P (zeros P) 4 ≡ kept 4) × (run_table P (zeros P) 4 ++ [] ≡ waits)
unfolding byte_at word_at digit join_digit join plain clear_digit contains union insert remove label_bytes ends_at data_at row_of_edge up_of down_of greatest most_at down_at largest_of plan_of spare_at length_for every differs sizes_fit observer_fits link_ends_fit duration_fits is_link_fit edge_ends_fit label_fits edge_fits labelled_length_for some length_fits point_label_fits contains_label contains_observers puts_after comes_after point_well_defined edge_well_defined link_well_defined well_defined refusal_of refusal raise_cell next
judged = (refl, refl, refl)

-- whatever the durations and the answers
pub followed_waits : (prefer : Preference) → Followed P waits prefer
followed_waits prefer = subst (λ (T : List ℕ). Followed P T prefer) judged.2 ((run_means_bytes ramp_quick judged.0 4 [] []).first_followed (subst IsKept (sym judged.1) tt) prefer)

-- ---- a shutter that takes 40 s
takes40 : Bool → Drama P AnyDuration
unfolding byte_at word_at label_bytes ends_at data_at most_at plan_of
takes40 b = record { scenario = λ j. b; situation = λ i. 40; no_shorter = shorter; no_longer = longer; looked_at = λ i h. tt }
  where
    shorter : (i : ℕ) → i < 1 → P.least i ≤ 40
    shorter zero h = omega arith
    shorter (suc i) h = absurd (omega arith)

    longer : (i : ℕ) → i < 1 → 40 ≤ P.most i
    longer zero h = omega arith
    longer (suc i) h = absurd (omega arith)

abbrev times_in : Bool → List ℕ
times_in b = map (final P waits (λ s answers. 0) (takes40 b)).time (below 4)

-- alarm, shutter down, poll, jets: by computation
played : (times_in true ≡ 0 ∷ 40 ∷ 40 ∷ 180 ∷ []) × (times_in false ≡ 0 ∷ 40 ∷ 40 ∷ 40 ∷ [])
unfolding byte_at word_at digit plain contains label_bytes ends_at data_at row_of_edge up_of down_of greatest most_at down_at largest_of plan_of every differs first sum_over agrees ended disjoint holds_back goes_by ready chosen act run takes40
played = (refl, refl)
