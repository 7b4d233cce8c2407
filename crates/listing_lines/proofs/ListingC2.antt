-- Plan c2's listing, by computation (13.4): its lines are those of the bytes shown there, and the 16-bit table has their numbers.
use mathlib.Core.Path.{◌≡◌, refl}
use mathlib.Core.List.{[], ◌∷◌}
use Rattle.plan.specs.Bytes.{byte_at, word_at}
use Rattle.plan.specs.Label.{join_digit, join, plain}
use Rattle.plan.specs.Layout.{ends_at, data_at, row_of_edge, up_of, down_of, greatest, most_at, down_at, largest_of, plan_of, label_bytes}
use Rattle.rules.specs.Tables.{raise_cell, next}
use Rattle.replay.proofs.ListingC2.{c2, lines2}
use Rattle.listing_lines.specs.Listed.{cell_lines, raised_lines, lines_to, lowest_raised, listing_lines, index_at, index_table}

pub c2_lines : (listing_lines (plan_of c2) 2 ≡ lines2) × (index_table (plan_of c2) lines2 ≡ 3 ∷ 2 ∷ [])
unfolding byte_at word_at join_digit join plain label_bytes ends_at data_at row_of_edge up_of down_of greatest most_at down_at largest_of plan_of raise_cell next cell_lines raised_lines lines_to lowest_raised listing_lines index_at index_table
c2_lines = (refl, refl)
