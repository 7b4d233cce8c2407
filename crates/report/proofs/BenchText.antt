-- Worked examples: two decimals, and plan c2, which prints the lines of 13.4 with any two tables of two cells or more.
use mathlib.Core.Path.{◌≡◌, refl, ap₂, ◌∙◌}
use mathlib.Core.List.{List, [], ◌∷◌, ◌++◌}
use Prim.Native.Nat.{ℕ, ◌≤◌}
use lib.ListN.{length, drop}
use Rattle.plan.specs.Plan.{cells}
use Rattle.plan.specs.Bytes.{byte_at, word_at}
use Rattle.plan.specs.Label.{digit, join_digit, join, plain, clear_digit}
use Rattle.plan.specs.LinkSet.{contains, union, insert, remove}
use Rattle.plan.specs.Layout.{ends_at, data_at, row_of_edge, up_of, down_of, greatest, most_at, down_at, largest_of, plan_of, spare_at, length_for, label_bytes, labelled_length_for}
use Rattle.plan.specs.Refusal.{every, differs, sizes_fit, observer_fits, link_ends_fit, duration_fits, is_link_fit, edge_ends_fit, label_fits, edge_fits, refusal_of, refusal, Accepted, some, length_fits, point_label_fits, contains_label, contains_observers, puts_after, comes_after, point_well_defined, edge_well_defined, link_well_defined, well_defined}
use Rattle.rules.specs.Tables.{raise_cell, next}
use Rattle.rounds_making.specs.Rounds.{zeros}
use Rattle.rounds_making.specs.Outcomes.{Outcome, run_outcome, run_table}
use Rattle.rounds.proofs.Checking.{check_runs, check_leaves}
use Rattle.text.specs.Decimal.{digits, decimal}
use Rattle.text.specs.Joined.{joined}
use Rattle.report.specs.Text.{numbered_line, first_line, cell_text, point_line, text_of}
use Rattle.rounds.specs.Meaning.{serving_limit}
use Rattle.report.specs.Printed.{program_outcome, program_table, printed}

pub decimal_zero : decimal 0 ≡ 48 ∷ []
unfolding digits decimal
decimal_zero = refl

pub decimal_limit : decimal serving_limit ≡ 49 ∷ 53 ∷ 53 ∷ 55 ∷ 49 ∷ 51 ∷ 54 ∷ 57 ∷ 57 ∷ 56 ∷ 53 ∷ []
unfolding digits decimal
decimal_limit = refl

abbrev c2 : List ℕ
c2 = 2 ∷ 0 ∷ 0 ∷ 2 ∷ 0 ∷ 1 ∷ 1 ∷ 0 ∷ 0 ∷ 5 ∷ 0 ∷ 0 ∷ 255 ∷ 250 ∷ 0 ∷ 0 ∷ []

-- `broken 2`, `0 1`, `1 6`
abbrev c2_lines : List ℕ
c2_lines =
    98 ∷ 114 ∷ 111 ∷ 107 ∷ 101 ∷ 110 ∷ 32 ∷ 50 ∷ 10
    ∷ 48 ∷ 32 ∷ 49 ∷ 10
    ∷ 49 ∷ 32 ∷ 54 ∷ 10
    ∷ []

accepted : Accepted c2
unfolding byte_at word_at digit plain label_bytes ends_at data_at row_of_edge up_of down_of greatest most_at down_at largest_of plan_of spare_at length_for every differs sizes_fit observer_fits link_ends_fit duration_fits is_link_fit edge_ends_fit label_fits edge_fits labelled_length_for some length_fits point_label_fits contains_label contains_observers puts_after comes_after point_well_defined edge_well_defined link_well_defined well_defined refusal_of refusal
accepted = refl

module _ (F G : List ℕ) (f : 2 ≤ length F) (g : 2 ≤ length G) where
  abbrev left : List ℕ
  left = run_table (plan_of c2) (zeros (plan_of c2)) serving_limit ++ drop (cells (plan_of c2)) F

  -- the check runs
  runs : printed c2 F G ≡ text_of (run_outcome (plan_of c2) (zeros (plan_of c2)) serving_limit) (plan_of c2) left
  unfolding printed program_outcome program_table byte_at plan_of
  runs = ap₂ (λ (o : Outcome) (T : List ℕ). text_of o (plan_of c2) T) (check_runs c2 F G serving_limit accepted f g) (check_leaves c2 F G serving_limit accepted f g F)

  -- by computation
  prints : text_of (run_outcome (plan_of c2) (zeros (plan_of c2)) serving_limit) (plan_of c2) left ≡ c2_lines
  unfolding byte_at word_at digit join_digit join plain clear_digit contains union insert remove label_bytes ends_at data_at row_of_edge up_of down_of greatest most_at down_at largest_of plan_of spare_at length_for every differs sizes_fit observer_fits link_ends_fit duration_fits is_link_fit edge_ends_fit label_fits edge_fits labelled_length_for some length_fits point_label_fits contains_label contains_observers puts_after comes_after point_well_defined edge_well_defined link_well_defined well_defined refusal_of refusal raise_cell next digits decimal joined numbered_line first_line cell_text point_line text_of
  prints = refl

  pub c2_printed : printed c2 F G ≡ c2_lines
  c2_printed = runs ∙ prints
