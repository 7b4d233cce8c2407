-- Broken where the first alarm waits, else kept.
use mathlib.Core.Path.{sym, ◌∙◌}
use Rattle.rounds_making.proofs.making.ending.Goals as goal

pub returns-then-first_alarm_waits : goal.returns-then-first_alarm_waits
returns-then-first_alarm_waits c = rw (sym c.first_alarm_waits.ensures ∙ c.if-first_alarm_waits.true)

pub returns : goal.returns
returns c = rw (sym c.first_alarm_waits.ensures ∙ c.if-first_alarm_waits.false)
