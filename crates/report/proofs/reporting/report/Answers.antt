-- Over 832 bytes the line of refusal 1; else the text of what the check answers and leaves in the first table.
use native.Mathlib.Omega.{arith}
use Rattle.std.proofs.Common.{rules}
use Rattle.rounds_making.specs.Outcomes.{refused}
use Rattle.report.proofs.Lengths.{first_length}
use Rattle.text.proofs.Puts.{written}
use Rattle.report.proofs.PrintedLaws.{long_reported, short_printable, short_reported}
use Rattle.report.proofs.reporting.report.Goals as goal

pub put_refusal-requires : goal.put_refusal-requires
put_refusal-requires c = record { room = omega (arith, first_length (refused 1) (omega arith), c.new-text.ensures.length_is) }

pub returns-then-input-gt-MOST_BYTES : goal.returns-then-input-gt-MOST_BYTES
returns-then-input-gt-MOST_BYTES c = let s = c.args in
    long_reported s.input.now s.first.now s.second.now (search rules) (written c.new-text.ensures c.put_refusal.ensures c.length.ensures (search rules))

pub put_text-requires : goal.put_text-requires
put_text-requires c = let s = c.args in
    let k = c.check-answered in
    short_printable s.input.now s.first.now s.second.now (search rules) _ _ _ k.ensures c.new-text.ensures

pub returns : goal.returns
returns c = let s = c.args in
    let k = c.check-answered in
    short_reported s.input.now s.first.now s.second.now (search rules) _ _ _ k.ensures (written c.new-text.ensures c.put_text.ensures c.length-2.ensures (search rules))
