-- The loop's invariant: the lines of the cells passed are put.
use Rattle.plan.specs.Layout.{plan_of}
use Rattle.text.specs.Joined.{joined}
use Rattle.text.specs.Buffer.{Puts}
use Rattle.page.specs.Page.{cell_text}
use Rattle.page.proofs.lines.put_page.Given as goal

abbrev pub invariant-loop-c : goal.invariant-loop-c
invariant-loop-c l = Puts (joined (cell_text (plan_of l.plan) l.table) l.c) l.initial.text l.text
