-- All marks are set, all rows tried, and a last trial of those that remain leaves its table.
use Rattle.minimal_rows.proofs.MarkLaws.{still_lent, all_lent, all_set, rows_left}
use Rattle.minimal_rows.proofs.trials.Trials.reduce.Goals as goal

pub try_rows-requires : goal.try_rows-requires
try_rows-requires c = let m = c.mark_rows.ensures in
    let e = c.edges in
    record { marks_lent = all_lent _ _ _ _ c.requires e.result _ e.ensures.0 m.marks_value m.same_length; marks_value = all_set _ _ _ _ c.requires e.result _ e.ensures.0 m.marks_value m.same_length }

pub trial-last-requires : goal.trial-last-requires
trial-last-requires c = let m = c.mark_rows.ensures in
    let e = c.edges in
    still_lent _ _ _ _ _ _ _ _ c.try_rows.ensures (all_lent _ _ _ _ c.requires e.result _ e.ensures.0 m.marks_value m.same_length)

pub returns : goal.returns
returns c = let m = c.mark_rows.ensures in
    let e = c.edges in
    rows_left _ _ _ _ c.requires e.result _ e.ensures.0 m.marks_value m.same_length _ _ _ _ _ _ c.try_rows.ensures c.trial-last.ensures
