-- The rows' bytes are written to the start of the buffer, and the rounds run on that part.
use native.Mathlib.Omega.{arith}
use Rattle.minimal_rows.proofs.TrialsMade.{bytes_fit, part_lent, part_tried}
use Rattle.minimal_rows.proofs.trials.Trials.run_rows.Goals as goal

pub write_rows-end-requires-clause-rows_in_bounds : goal.write_rows-end-requires-clause-rows_in_bounds
write_rows-end-requires-clause-rows_in_bounds c = omega (arith, bytes_fit _ _ _ _ _ _ c.args.self.now.trying c.requires.tables_lent.0 c.requires.tables_lent.1, c.requires.in_bounds)

pub run_from_zeros-requires : goal.run_from_zeros-requires
run_from_zeros-requires c = let w = c.write_rows-end in
    part_lent _ c.args.rows.now _ _ _ _ c.args.self.now.trying c.requires.tables_lent.0 c.requires.tables_lent.1 _ _ w.result w.ensures.value w.ensures.out_value

pub returns : goal.returns
returns c = let w = c.write_rows-end in
    part_tried _ c.args.rows.now _ _ _ _ c.args.self.now.trying c.requires.tables_lent.0 c.requires.tables_lent.1 _ _ w.result w.ensures.value w.ensures.out_value _ _ _ _ c.is_broken.ensures c.run_from_zeros.ensures
