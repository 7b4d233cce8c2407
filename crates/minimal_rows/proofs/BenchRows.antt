-- Worked examples (21.9), by computation: of two rows that each break a plan together with a third the later remains; the bench plans that are broken need all their rows.
use mathlib.Core.Path.{◌≡◌, refl}
use mathlib.Core.List.{List, [], ◌∷◌, map}
use Prim.Native.Nat.{ℕ}
use Rattle.plan.specs.Bytes.{byte_at, word_at}
use Rattle.plan.specs.Label.{digit, join_digit, join, plain, clear_digit}
use Rattle.plan.specs.LinkSet.{contains, union, insert, remove}
use Rattle.plan.specs.Layout.{ends_at, data_at, row_of_edge, up_of, down_of, greatest, most_at, down_at, largest_of, plan_of, label_bytes}
use Rattle.plan_rows.specs.Rows.{marked_from}
use Rattle.rules.specs.Tables.{raise_cell, next}
use Rattle.minimal_rows.specs.Trials.{try_row, tried_to, breaking_marks}

-- point 1 at most 5 s, at least 6 s, and at least 7 s after the first alarm
abbrev late : List ℕ
late = 2 ∷ 0 ∷ 0 ∷ 3 ∷ 0 ∷ 1 ∷ 1 ∷ 0 ∷ 1 ∷ 0 ∷ 0 ∷ 5 ∷ 0 ∷ 0 ∷ 255 ∷ 250 ∷ 0 ∷ 0 ∷ 255 ∷ 249 ∷ 0 ∷ 0 ∷ []

-- c2, c6, c7 and c9 (16.1)
abbrev broken_plans : List (List ℕ)
broken_plans =
    (2 ∷ 0 ∷ 0 ∷ 2 ∷ 0 ∷ 1 ∷ 1 ∷ 0 ∷ 0 ∷ 5 ∷ 0 ∷ 0 ∷ 255 ∷ 250 ∷ 0 ∷ 0 ∷ [])
    ∷ (2 ∷ 0 ∷ 1 ∷ 1 ∷ 0 ∷ 1 ∷ 0 ∷ 1 ∷ 0 ∷ 2 ∷ 0 ∷ 5 ∷ 0 ∷ 4 ∷ 0 ∷ 0 ∷ [])
    ∷ (2 ∷ 0 ∷ 1 ∷ 1 ∷ 0 ∷ 1 ∷ 1 ∷ 0 ∷ 0 ∷ 2 ∷ 0 ∷ 5 ∷ 255 ∷ 253 ∷ 0 ∷ 0 ∷ [])
    ∷ (3 ∷ 1 ∷ 0 ∷ 3 ∷ 1 ∷ 1 ∷ 0 ∷ 2 ∷ 0 ∷ 0 ∷ 2 ∷ 255 ∷ 251 ∷ 0 ∷ 0 ∷ 255 ∷ 252 ∷ 1 ∷ 0 ∷ 0 ∷ 3 ∷ 2 ∷ 0 ∷ [])
    ∷ []

pub later_remains : breaking_marks (plan_of late) ≡ 1 ∷ 0 ∷ 1 ∷ []
unfolding byte_at word_at digit join_digit join plain clear_digit contains union insert remove label_bytes ends_at data_at row_of_edge up_of down_of greatest most_at down_at largest_of plan_of raise_cell next marked_from try_row tried_to
later_remains = refl

pub all_needed : map (λ bs. breaking_marks (plan_of bs)) broken_plans ≡ (1 ∷ 1 ∷ []) ∷ (1 ∷ []) ∷ (1 ∷ []) ∷ (1 ∷ 1 ∷ 1 ∷ []) ∷ []
unfolding byte_at word_at digit join_digit join plain clear_digit contains union insert remove label_bytes ends_at data_at row_of_edge up_of down_of greatest most_at down_at largest_of plan_of raise_cell next marked_from try_row tried_to
all_needed = refl
