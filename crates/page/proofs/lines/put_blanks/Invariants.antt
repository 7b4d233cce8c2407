-- The loop's invariant: the blanks passed are put.
use lib.ListN.{replicate}
use Rattle.text.specs.Buffer.{Puts}
use Rattle.page.proofs.lines.put_blanks.Given as goal

abbrev pub invariant-loop : goal.invariant-loop
invariant-loop l = Puts (replicate l.counter 32) l.initial.text l.text
