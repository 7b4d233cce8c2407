-- Document 01's example, by computation: replay accepts the listing of plan c2, and its lines are those of the two heads.
use mathlib.Core.Path.{◌≡◌, refl}
use mathlib.Core.List.{List, [], ◌∷◌}
use Prim.Native.Nat.{ℕ}
use Rattle.plan.specs.Bytes.{byte_at, word_at}
use Rattle.plan.specs.Label.{join_digit, join, plain, digit}
use Rattle.plan.specs.Layout.{ends_at, data_at, row_of_edge, up_of, down_of, greatest, most_at, down_at, largest_of, plan_of, spare_at, length_for, label_bytes, labelled_length_for}
use Rattle.plan.specs.Refusal.{every, differs, sizes_fit, observer_fits, link_ends_fit, duration_fits, is_link_fit, edge_ends_fit, label_fits, edge_fits, refusal_of, refusal, some, length_fits, point_label_fits, contains_label, contains_observers, puts_after, comes_after, point_well_defined, edge_well_defined, link_well_defined, well_defined}
use Rattle.rules.specs.declared.Line.{Line}
use Rattle.rules_apply.specs.Applying.{is_same_line, gives_line_of}
use Rattle.replay.specs.Listings.{long_at, line_count, head_in, head_line, head_rule, ground_at, row_of, first_parent, second_parent, lines_in}
use Rattle.replay.specs.Replaying.{laid_out, in_range, parents_known, follows, judge_line, judge_lines, judge_last, judge_listing, replay}

abbrev pub c2 : List ℕ
c2 = 2 ∷ 0 ∷ 0 ∷ 2 ∷ 0 ∷ 1 ∷ 1 ∷ 0 ∷ 0 ∷ 5 ∷ 0 ∷ 0 ∷ 255 ∷ 250 ∷ 0 ∷ 0 ∷ []

-- 00 02; 01 00 00 01 00000006; 00 00 00 01 00000001; 0001 0000 0000; 0000 0002 0000
abbrev pub l2 : List ℕ
l2 = 0 ∷ 2 ∷ 1 ∷ 0 ∷ 0 ∷ 1 ∷ 0 ∷ 0 ∷ 0 ∷ 6 ∷ 0 ∷ 0 ∷ 0 ∷ 1 ∷ 0 ∷ 0 ∷ 0 ∷ 1 ∷ 0 ∷ 1 ∷ 0 ∷ 0 ∷ 0 ∷ 0 ∷ 0 ∷ 0 ∷ 0 ∷ 2 ∷ 0 ∷ 0 ∷ []

-- point 1 waits 6 seconds, then point 0 waits 1
abbrev pub lines2 : List Line
lines2 = record { point = 1; set = 0; label = 0; wait = 6 } ∷ record { point = 0; set = 0; label = 0; wait = 1 } ∷ []

pub c2_listing : (replay c2 l2 ≡ 0) × (lines_in l2 ≡ lines2)
unfolding byte_at word_at digit join_digit join plain label_bytes ends_at data_at row_of_edge up_of down_of greatest most_at down_at largest_of plan_of spare_at length_for every differs sizes_fit observer_fits link_ends_fit duration_fits is_link_fit edge_ends_fit label_fits edge_fits labelled_length_for some length_fits point_label_fits contains_label contains_observers puts_after comes_after point_well_defined edge_well_defined link_well_defined well_defined refusal_of refusal long_at line_count head_in head_line head_rule ground_at row_of first_parent second_parent is_same_line gives_line_of laid_out in_range parents_known follows judge_line judge_lines judge_last judge_listing replay
c2_listing = (refl, refl)
